-- A line that reads names no variable above 4,294,967,295.
use Rattle.std.specs.Prelude.{ℕ, suc, pred, ◌+◌, ◌-◌, ◌*◌, ◌≤◌, ◌<◌, ◌≡◌, Bool, true, false, cond, List, [], ◌∷◌, leb, pos, ◌+ℤ◌, ◌-ℤ◌}
use Rattle.std.proofs.Math.Path.{refl, ap, ap₂}
use Rattle.std.proofs.Common.{sym, ◌∙◌, arith, leb-true, leb-false, eq-eqb, ne_eqb}
use Rattle.std.proofs.Math.Option.{Option, none, some}
use Rattle.std.proofs.Math.ListN.{length}
use Rattle.std.proofs.Math.IntN.{neg_ℤ}
use Rattle.laws.specs.Ring.{ring, v, k, ◌⊠◌}
use Rattle.grammar.specs.Sums.{Term, Reading, reads, most, most_name}
use Rattle.grammar.specs.Trees.{Sort, Tree, amount, variable, multiple, negated, bracketed, single, added, subtracted, Line, Fault, fault, else, passes, multiplier_fault, depth_fault, past, fault_of, line_fault, worth, worth_from, bytes_of, mark_of, coefficient_of}
use Rattle.grammar.specs.Says.{coefficient_in, NoneZero, IsReading}
use Rattle.grammar.specs.Reader.{read_line}
use Rattle.grammar.proofs.Facts.{never}
use Rattle.grammar.proofs.Theorems.{accepts}
use Rattle.grammar.specs.Names.{Named}

-- ---- a tree in which nothing is refused

else-none : (x y : Option Fault) → else x y ≡ none → (x ≡ none) × (y ≡ none)
else-none none y e = (refl, e)
else-none (some x) y e = never (cc)

passes_none : (top n at : ℕ) (w : List ℕ) → n ≤ top → passes top n at w ≡ none → worth_from n w ≤ top
unfolding passes worth_from
passes_none top n at [] h e = h
passes_none top n at (b ∷ w) h e = by (leb (n * 10 + (b - 48)) top) (λ q. passes_none top (n * 10 + (b - 48)) (suc at) w (leb-true (n * 10 + (b - 48)) top q)) e
  where
    by : (t : Bool) → (t ≡ true → passes top (n * 10 + (b - 48)) (suc at) w ≡ none → worth_from (n * 10 + (b - 48)) w ≤ top)
        → cond t (passes top (n * 10 + (b - 48)) (suc at) w) (fault 22 at) ≡ none → worth_from (n * 10 + (b - 48)) w ≤ top
    by true f e = f refl e
    by false f e = never (cc)

-- it has nothing of a variable above the bound
module _ (x : ℕ) (above : most_name < x) where
  unnamed : (room product at : ℕ) {s : Sort} (t : Tree s) → fault_of room product at t ≡ none → coefficient_of x t ≡ pos 0
  unfolding fault_of coefficient_of
  unnamed room product at (amount n) e = refl
  unnamed room product at (variable n) e =
      let h = passes_none most_name 0 (at + 1) n.bytes (omega arith) e in
      rw (ne_eqb x (worth n) (λ q. omega arith))
  unnamed room product at (multiple n g t) e =
      let p = product * worth n in
      let q = at + length n.bytes in
      let a = else-none (passes most 0 at n.bytes) (else (multiplier_fault p (q + g.before)) (fault_of room p (past q g) t)) e in
      let b = else-none (multiplier_fault p (q + g.before)) (fault_of room p (past q g) t) a.1 in
      rw (unnamed room p (past q g) t b.1) (ring (pos (worth n) ∷ []) (v 0 ⊠ k (pos 0)) (k (pos 0)) tt)
  unnamed room product at (negated g t) e = ap neg_ℤ (unnamed room product (past at g) t e)
  unnamed room product at (bracketed g t h) e =
      let a = else-none (depth_fault room (at + g.before)) (fault_of (pred room) product (past at g) t) e in
      unnamed (pred room) product (past at g) t a.1
  unnamed room product at (single t) e = unnamed room product at t e
  unnamed room product at (added s g t) e =
      let p = past (at + length (bytes_of s)) g in
      let a = else-none (fault_of room product at s) (fault_of room product p t) e in
      ap₂ (λ y z. y +ℤ z) (unnamed room product at s a.0) (unnamed room product p t a.1)
  unnamed room product at (subtracted s g t) e =
      let p = past (at + length (bytes_of s)) g in
      let a = else-none (fault_of room product at s) (fault_of room product p t) e in
      ap₂ (λ y z. y -ℤ z) (unnamed room product at s a.0) (unnamed room product p t a.1)

  unnamed-line : (l : Line) → line_fault l ≡ none → coefficient_of x l.left_side -ℤ coefficient_of x l.right_side ≡ pos 0
  unfolding line_fault
  unnamed-line l e =
      let p = length (bytes_of l.left_side) + l.gap.before + length (mark_of l.relation) + l.gap.after in
      let a = else-none (fault_of 16 1 0 l.left_side) (fault_of 16 1 p l.right_side) e in
      ap₂ (λ y z. y -ℤ z) (unnamed 16 1 0 l.left_side a.0) (unnamed 16 1 p l.right_side a.1)

-- ---- so its terms have none

all_named : (ts : List Term) → NoneZero ts → ((x : ℕ) → most_name < x → coefficient_in x ts ≡ pos 0) → Named ts
unfolding coefficient_in
all_named [] z h = tt
all_named (t ∷ ts) z h =
    let small = by (leb t.variable most_name) (leb-true t.variable most_name) (leb-false t.variable most_name) in
    (small, all_named ts z.1 (λ x above. sym (rw (ne_eqb x t.variable (λ e. omega arith))) ∙ h x above))
  where
    by : (b : Bool) → (b ≡ true → t.variable ≤ most_name) → (b ≡ false → most_name < t.variable) → t.variable ≤ most_name
    by true f g = f refl
    by false f g = absurd (z.0 (sym (rw (eq-eqb t.variable t.variable refl)) ∙ h t.variable (g refl)))

pub reading-named : (l : Line) (r : Reading) → line_fault l ≡ none → IsReading l r → Named r.terms
reading-named l r e i = all_named r.terms i.dropped (λ x above. i.summed x ∙ unnamed-line x above l e)

pub line-named : (w : List ℕ) (r : Reading) → read_line w ≡ reads r → Named r.terms
line-named w r e =
    let a = (accepts w r).0 e in
    reading-named a.0 r a.3 a.4
