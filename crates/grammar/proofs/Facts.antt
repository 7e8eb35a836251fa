-- What the outcome of the reader says of bytes that begin as a line does.
use Rattle.std.specs.Prelude.{ℕ, zero, suc, pred, ◌+◌, ◌-◌, ◌*◌, ◌≤◌, ◌<◌, ◌≡◌, refl, Bool, true, false, cond, List, [], ◌∷◌, ◌++◌, leb, length, take, drop}
use Rattle.std.proofs.Common.{sym, ap, ◌∙◌, subst, append_assoc, zero-add, arith, take-append-drop, take-take, length-take-le}
use Rattle.std.proofs.Math.Option.{Option, none, some}
use Rattle.grammar.specs.Sums.{Relation, Sums, most, most_name, nothing}
use Rattle.grammar.specs.Reader.{first, left, halted, whole}
use Rattle.grammar.specs.Trees.{Sort, Tree, amount, variable, multiple, negated, bracketed, single, added, subtracted, Line, Fault, fault, else, passes, multiplier_fault, depth_fault, past, fault_of, line_fault, worth, bytes_of, mark_of, line_bytes}
use Rattle.grammar.specs.Says.{Begins}
use Rattle.grammar.specs.Pieces.{met}
use Rattle.grammar.specs.LineWalk.{sums_of}
use Rattle.grammar.proofs.LineWalk.{walk-line}
use Rattle.grammar.specs.Causal.{Through, passed, left-off}
use Rattle.grammar.proofs.Causal.{not-before, through}
use Rattle.grammar.specs.Causal as causal
use Rattle.grammar.specs.Facts.{outcome}

-- ---- the faults of a tree are 21 and 22

abbrev Above20 : Option Fault → Type 0
Above20 none = Unit {0}
Above20 (some x) = 20 < x.number

above-else : (a b : Option Fault) → Above20 a → Above20 b → Above20 (else a b)
above-else none b h k = k
above-else (some x) b h k = h

above_if : (t : Bool) (a b : Option Fault) → Above20 a → Above20 b → Above20 (cond t a b)
above_if true a b h k = h
above_if false a b h k = k

above-passes : (top v at : ℕ) (w : List ℕ) → Above20 (passes top v at w)
unfolding passes
above-passes top v at [] = tt
above-passes top v at (b ∷ w) = above_if (leb (v * 10 + (b - 48)) top) (passes top (v * 10 + (b - 48)) (suc at) w) (fault 22 at) (above-passes top (v * 10 + (b - 48)) (suc at) w) (omega arith)

above_depth : (room at : ℕ) → Above20 (depth_fault room at)
above_depth zero at = omega arith
above_depth (suc n) at = tt

above-fault : (room product at : ℕ) {k : Sort} (t : Tree k) → Above20 (fault_of room product at t)
unfolding fault_of
above-fault room product at (amount n) = above-passes most 0 at n.bytes
above-fault room product at (variable n) = above-passes most_name 0 (at + 1) n.bytes
above-fault room product at (multiple n g t) =
    let p = product * worth n in
    let q = at + length n.bytes in
    above-else (passes most 0 at n.bytes) (else (multiplier_fault p (q + g.before)) (fault_of room p (past q g) t)) (above-passes most 0 at n.bytes)
    (above-else (multiplier_fault p (q + g.before)) (fault_of room p (past q g) t) (above_if (leb p most) none (fault 22 (q + g.before)) tt (omega arith)) (above-fault room p (past q g) t))
above-fault room product at (negated g t) = above-fault room product (past at g) t
above-fault room product at (bracketed g t h) =
    above-else (depth_fault room (at + g.before)) (fault_of (pred room) product (past at g) t) (above_depth room (at + g.before)) (above-fault (pred room) product (past at g) t)
above-fault room product at (single t) = above-fault room product at t
above-fault room product at (added s g t) =
    above-else (fault_of room product at s) (fault_of room product (past (at + length (bytes_of s)) g) t) (above-fault room product at s) (above-fault room product (past (at + length (bytes_of s)) g) t)
above-fault room product at (subtracted s g t) =
    above-else (fault_of room product at s) (fault_of room product (past (at + length (bytes_of s)) g) t) (above-fault room product at s) (above-fault room product (past (at + length (bytes_of s)) g) t)

pub fault-above : (l : Line) {x : Fault} → line_fault l ≡ some x → 20 < x.number
unfolding line_fault
fault-above l e =
    let p = length (bytes_of l.left_side) + l.gap.before + length (mark_of l.relation) + l.gap.after in
    subst Above20 e (above-else (fault_of 16 1 0 l.left_side) (fault_of 16 1 p l.right_side) (above-fault 16 1 0 l.left_side) (above-fault 16 1 p l.right_side))

-- ---- a line of the grammar

pub never : {A : Type 0} → ◌≡◌ {A = ℕ} 0 1 → A
never e = absurd (omega arith)

pub line-halts : (l : Line) {n i : ℕ} → outcome (line_bytes l) ≡ halted n i → line_fault l ≡ some (record { number = n; offset = i })
line-halts l {n} {i} e = by (line_fault l) (sym (walk-line l) ∙ e)
  where
    by : (x : Option Fault) → met x (whole l.relation (sums_of l)) ≡ halted n i → x ≡ some (record { number = n; offset = i })
    by none q = never (cc)
    by (some x) q =
        let a : x.number ≡ n = cc in
        let b : x.offset ≡ i = cc in
        λ j. some (record { number = a j; offset = b j })

pub line-faulty : (l : Line) {x : Fault} → line_fault l ≡ some x → outcome (line_bytes l) ≡ halted x.number x.offset
line-faulty l e = walk-line l ∙ ap (λ (y : Option Fault). met y (whole l.relation (sums_of l))) e

pub line-whole : (l : Line) {r : Relation} {s : Sums} → outcome (line_bytes l) ≡ whole r s → (line_fault l ≡ none) × (r ≡ l.relation) × (s ≡ sums_of l)
line-whole l {r} {s} e = by (line_fault l) (sym (walk-line l) ∙ e)
  where
    by : (x : Option Fault) → met x (whole l.relation (sums_of l)) ≡ whole r s → (x ≡ none) × (r ≡ l.relation) × (s ≡ sums_of l)
    by none q = (refl, cc, cc)
    by (some x) q = never (cc)

-- 20 is never met in a line
pub line-in : (l : Line) {i : ℕ} → outcome (line_bytes l) ≡ halted 20 i → ⊥
line-in l e = let h = fault-above l (line-halts l e) in omega arith

-- ---- bytes that begin alike

alike : (p y z : List ℕ) {n i : ℕ} → outcome (p ++ y) ≡ halted n i → i < length p → outcome (p ++ z) ≡ halted n i
alike p y z {n} {i} e h = by (through p 0 first left nothing)
  where
    by : Through p 0 first left nothing → outcome (p ++ z) ≡ halted n i
    by (passed m a s f) =
        let q : 0 + length p ≤ i = not-before y (0 + length p) m a s (sym (f y) ∙ e) in
        absurd (omega (arith, zero-add (length p)))
    by (causal.met k j g f) = f z ∙ (sym (f y) ∙ e)
    by (left-off j t u f) = never (let g = f y in cc)

module _ (l : Line) (w : List ℕ) (b : ℕ) (h : Begins l w b) (n i : ℕ) (less : i < b) where
  ahead : i < length (take b w)
  ahead = rw (length-take-le b w h.0) less

  pub to-line : outcome w ≡ halted n i → outcome (line_bytes l) ≡ halted n i
  to-line e = rw (← h.1.1) (alike (take b w) (drop b w) h.1.0 (rw take-append-drop e) ahead)

  pub from-line : outcome (line_bytes l) ≡ halted n i → outcome w ≡ halted n i
  from-line e = ap outcome (sym (take-append-drop b w)) ∙ alike (take b w) h.1.0 (drop b w) (ap outcome h.1.1 ∙ e) ahead

pub begins-down : (l : Line) (w : List ℕ) (n b : ℕ) → n ≤ b → Begins l w b → Begins l w n
begins-down l w n b h (k, (more, e)) =
    (omega arith, (drop n (take b w) ++ more, sym (append_assoc (take n w) (drop n (take b w)) more) ∙ (ap (λ (x : List ℕ). (x ++ drop n (take b w)) ++ more) (sym (take-take n b w h)) ∙ (ap (λ (x : List ℕ). x ++ more) (take-append-drop n (take b w)) ∙ e))))
