-- T-13 of document 02: "Reading what is written gives the constraint back as numbers, equal constraints have equal lines, and writing what was read from a plain line gives that line."
use Rattle.std.specs.Prelude.{ℕ, ◌≤◌, ◌≡◌, Bool, ◌&&◌, leb, eqb, length, pos, nat_abs}
use Rattle.std.proofs.Math.Path.{refl, sym, ap₂}
use Rattle.std.proofs.Common.{ap, ◌∙◌, arith, leb-true, eqb-true, leb→le}
use Rattle.std.proofs.Math.Bool.{true, false, cond}
use mathlib.Core.List.{List, [], ◌∷◌, ◌++◌, append_assoc, append-nil}
use Rattle.std.proofs.Math.Option.{none, some}
use Rattle.std.proofs.Math.Dec.{T}
use Rattle.laws.specs.Ring.{ring, v, k, ◌⊟⊟◌}
use Rattle.grammar.specs.Sums.{Term, most, most_name, small_terms, judged}
use Rattle.grammar.specs.Trees.{Digits, amount, single, Line, line_bytes, line_fault, fault_of, bytes_of, mark_of, constant_of, coefficient_of, worth_from, passes}
use Rattle.grammar.specs.Says.{IsReading}
use Rattle.grammar.specs.Pieces.{both}
use Rattle.grammar.specs.Reach.{one-digit}
use Rattle.grammar.proofs.Facts.{never}
use Rattle.grammar.specs.edition.Endings.{Ending, Second, ending_bytes, second_bytes, required, most_group, is_group, strength_of, group_of, Constraint, taken, behind}
use Rattle.grammar.specs.edition.Free.{and_both}
use Rattle.grammar.specs.edition.Steps.{read_second}
use Rattle.grammar.proofs.edition.Theorems.{accepts}
use Rattle.grammar.specs.plain.Decimal.{decimal}
use Rattle.grammar.specs.plain.Plain.{sum_text, ending_text, plain_text, ascends, terms_said, reading_said, sayable, wrote, refused, room, write_line}
use Rattle.grammar.specs.plain.Forms.{tight, digits_of, AllSaid, sum_tree}
use Rattle.grammar.proofs.plain.Forms.{worth-is, sum-bytes, sum-constant, sum-coefficient, sum-faultless}
use Rattle.grammar.specs.plain.Said.{ascending, totals, all_said, none-zero, small-terms}
use Rattle.grammar.specs.plain.Theorems.{Says, Wrote, Plain}

is_true : (t : Bool) → T t → t ≡ true
is_true true h = refl
is_true false h = absurd h

-- ---- what can be said

pub says : (c : Constraint) → T (sayable c) → Says c
unfolding sayable
says c h =
    let n = leb (length c.reading.terms) 16 in
    let a = ascends c.reading.terms in
    let t = terms_said c.reading.terms in
    let z = leb (nat_abs c.reading.constant) most in
    let top = both (reading_said c.reading) (leb c.strength required && is_group c.group) h in
    let x = both n (a && (t && z)) top.0 in
    let y = both a (t && z) x.1 in
    let w = both t z y.1 in
    let u = both (leb c.strength required) (is_group c.group) top.1 in
    record { few = x.0; rising = y.0; terms = w.0; constant = w.1; strength = u.0; group = u.1 }

pub said : (c : Constraint) → Says c → T (sayable c)
unfolding sayable
said c s =
    let n = leb (length c.reading.terms) 16 in
    let a = ascends c.reading.terms in
    let t = terms_said c.reading.terms in
    let z = leb (nat_abs c.reading.constant) most in
    and_both (reading_said c.reading) (leb c.strength required && is_group c.group)
    (and_both n (a && (t && z)) s.few (and_both a (t && z) s.rising (and_both t z s.terms s.constant)))
    (and_both (leb c.strength required) (is_group c.group) s.strength s.group)

module _ (c : Constraint) (s : Says c) where
  abbrev ts : List Term
  ts = c.reading.terms

  -- ---- the line

  terms-said : AllSaid ts
  terms-said = all_said ts s.terms

  small : nat_abs c.reading.constant ≤ most
  small = leb→le (nat_abs c.reading.constant) most s.constant

  nought : Digits
  nought = one-digit 48 tt

  line : Line
  line = record { left_side = sum_tree c.reading.constant small ts terms-said; gap = tight; relation = c.reading.relation; right_side = single (amount nought) }

  strong : c.strength ≤ most_name
  strong = let h = leb→le c.strength required s.strength in omega arith

  grouped : c.group ≤ most_name
  grouped = let h = leb→le c.group most_group (both (leb 1 c.group) (leb c.group most_group) s.group).1 in omega arith

  abbrev usual : Bool
  usual = eqb c.strength required && eqb c.group 1

  ended : Ending
  ended = record { mark = tight; strength = digits_of c.strength strong; comma = tight; group = digits_of c.group grouped }

  second : Second
  unfolding line ended
  second = record { line = line; ending = cond usual none (some ended) }

  -- its bytes are the plain form
  ending-bytes : ending_bytes (cond usual none (some ended)) ≡ ending_text c.strength c.group
  unfolding ended
  ending-bytes = by usual
    where
      by : (t : Bool) → ending_bytes (cond t none (some ended)) ≡ cond t [] (64 ∷ (decimal c.strength ++ (44 ∷ decimal c.group)))
      by true = refl
      by false = refl

  bytes : second_bytes second ≡ plain_text c
  unfolding second_bytes second line plain_text line_bytes bytes_of nought
  bytes =
      ap₂ (λ (x y : List ℕ). (x ++ (([] ++ (mark_of c.reading.relation ++ [])) ++ (48 ∷ []))) ++ y) (sum-bytes c.reading.constant small ts terms-said) ending-bytes
      ∙ by (sum_text c.reading.constant ts) (mark_of c.reading.relation) (ending_text c.strength c.group)
    where
      by : (x m y : List ℕ) → (x ++ (([] ++ (m ++ [])) ++ (48 ∷ []))) ++ y ≡ x ++ (m ++ (48 ∷ y))
      by x m y = simp (append_assoc, append-nil)

  -- what it says
  strength-is : strength_of second.ending ≡ c.strength
  unfolding second ended
  strength-is = by usual (λ e. (both (eqb c.strength required) (eqb c.group 1) e).0)
    where
      by : (t : Bool) → (T t → T (eqb c.strength required)) → strength_of (cond t none (some ended)) ≡ c.strength
      by true e = sym (eqb-true c.strength required (is_true (eqb c.strength required) (e tt)))
      by false e = worth-is c.strength strong

  group-is : group_of second.ending ≡ c.group
  unfolding second ended
  group-is = by usual (λ e. (both (eqb c.strength required) (eqb c.group 1) e).1)
    where
      by : (t : Bool) → (T t → T (eqb c.group 1)) → group_of (cond t none (some ended)) ≡ c.group
      by true e = sym (eqb-true c.group 1 (is_true (eqb c.group 1) (e tt)))
      by false e = worth-is c.group grouped

  faultless : line_fault line ≡ none
  unfolding line_fault line fault_of passes nought
  faultless = rw (sum-faultless c.reading.constant small 16 ts terms-said 0)

  is-reading : IsReading line c.reading
  unfolding line constant_of coefficient_of worth_from nought
  is-reading =
      let l = sum_tree c.reading.constant small ts terms-said in
      let a = ascending ts s.rising in
      record {
        related = refl;
        constant = sym (sum-constant c.reading.constant small ts terms-said) ∙ ring (constant_of l ∷ []) (v 0) (v 0 ⊟⊟ k (pos 0)) tt;
        summed = λ x. sym (totals x ts a) ∙ (sym (sum-coefficient c.reading.constant small x ts terms-said) ∙ ring (coefficient_of x l ∷ []) (v 0) (v 0 ⊟⊟ k (pos 0)) tt);
        dropped = none-zero ts s.terms;
        ascending = a;
      }

  in_bounds : behind (judged c.reading) c.strength c.group ≡ taken c
  unfolding judged
  in_bounds =
      let Small-all = and_both (leb (nat_abs c.reading.constant) most) (small_terms ts) s.constant (small-terms ts s.terms) in
      rw (is_true (leb (nat_abs c.reading.constant) most && small_terms ts) Small-all, is_true (leb (length ts) 16) s.few, is_true (leb c.strength required) s.strength, is_true (is_group c.group) s.group)

  pub plain-reads : length (plain_text c) ≤ 4096 → read_second (plain_text c) ≡ taken c
  unfolding second
  plain-reads h = (accepts (plain_text c) c).1 (second, h, bytes, faultless, is-reading, strength-is, group-is, in_bounds)

-- ---- the writer

pub wrote-is : (c : Constraint) (w : List ℕ) → write_line c ≡ wrote w → Wrote c w
unfolding write_line
wrote-is c w e = by (sayable c) (leb (length (plain_text c)) room) refl refl e
  where
    by : (t u : Bool) → sayable c ≡ t → leb (length (plain_text c)) room ≡ u → cond t (cond u (wrote (plain_text c)) (refused 32)) (refused 36) ≡ wrote w → Wrote c w
    by true true x y e = record { can = rw x tt; fits = leb-true (length (plain_text c)) room y; plain = cc }
    by true false x y e = never (cc)
    by false u x y e = never (cc)

-- "Reading what is written gives the constraint back as numbers"
pub reads-back : (c : Constraint) (w : List ℕ) → write_line c ≡ wrote w → read_second w ≡ taken c
reads-back c w e =
    let x = wrote-is c w e in
    let f = x.fits in
    rw x.plain (plain-reads c (says c x.can) (omega arith))

-- "equal constraints have equal lines"
pub equal-lines : (c d : Constraint) → c ≡ d → write_line c ≡ write_line d
equal-lines c d e = ap write_line e

taken-one : (c d : Constraint) → taken c ≡ taken d → c ≡ d
taken-one c d e = cc

-- "writing what was read from a plain line gives that line"
pub writes-back : (w : List ℕ) → Plain w → (c : Constraint) → read_second w ≡ taken c → write_line c ≡ wrote w
writes-back w (d, e) c r = ap write_line (taken-one c d (sym r ∙ reads-back d w e)) ∙ e

-- the plain form is the only one: two plain lines that read alike are one line
pub one_form : (u w : List ℕ) → Plain u → Plain w → read_second u ≡ read_second w → u ≡ w
one_form u w (c, e) (d, f) r =
    let q = taken-one c d (sym (reads-back c u e) ∙ (r ∙ reads-back d w f)) in
    let z : wrote u ≡ wrote w = sym e ∙ (ap write_line q ∙ f) in
    cc
