-- The code's answer to a line, by the grammar's.
use Prim.Native.Nat.{ℕ, zero, suc, ◌+◌, ◌-◌, ◌≤◌, ◌<◌}
use Rattle.std.specs.Prelude.{◌≡◌, Bool, cond, ◌&&◌, ◌||◌, leb, ltb, eqb, set, replicate, ℤ, pos, negsuc, nat_abs, Result, Ok, Err}
use Rattle.std.proofs.Math.Path.{refl, ap}
use Rattle.std.proofs.Common.{sym, ◌∙◌, not-suc-le-zero, le_of_suc-le-suc, add-one, leb-true, leb-false, lt-ltb, le-ltb, ne_eqb}
use Rattle.std.proofs.Math.Bool.{true, false, not}
use mathlib.Core.List.{List, [], ◌∷◌}
use native.Mathlib.Omega.{arith}
use Rattle.std.proofs.Math.ListN.{length}
use Rattle.laws.specs.Z.{P, N, PN-sub, eq_zb}
use Rattle.reader.specs.sums.Held.{zero_at, value_of}
use Rattle.grammar.specs.Sums.{Relation, at_most, equal, at_least, Term, Answer, reads, outside, refused, most, kept, small_terms}
use Rattle.reader.specs.Sides.{relation_of}
use Rattle.reader.specs.declared.sides.Mark.{Mark}
use Rattle.reader.specs.declared.sides.Mark.TheVariants.{AtMost, Equal, AtLeast}
use Rattle.reader.specs.Faults.{number_of, place_of, refusal_number, offset_of, refused_by}
use Rattle.reader.specs.declared.fault.Fault.{Fault}
use Rattle.reader.specs.declared.fault.Fault.TheVariants.{Astray, TooDeep, TooLarge}
use Rattle.grammar.specs.Reader.{refuses}
use Rattle.reader.specs.declared.fault.Refusal.{Refusal}
use Rattle.reader.specs.declared.answers.Constraint.{Constraint}
use Rattle.reader.specs.declared.answers.Kept.{Kept}

-- a whole number as it stands above 2 to the power of 53
abbrev pub stands_as : ℤ → ℕ
stands_as z = zero_at + P z - N z

-- each in its place, from the place i on
unfoldable pub laid : {A : Type 0} → (Term → A) → ℕ → List Term → List A → List A
laid f i [] l = l
laid f i (t ∷ ts) l = laid f (suc i) ts (set l i (f t))

abbrev pub no_variables : List ℕ
no_variables = replicate 16 0

abbrev pub no_coefficients : List ℕ
no_coefficients = replicate 16 zero_at

abbrev pub mark_of : Relation → Mark
mark_of at_most = AtMost
mark_of equal = Equal
mark_of at_least = AtLeast

-- number is 0 for a line that reads, else the refusal's, with the offset of 20
pub record Reading : Type 0 where
  pub number : ℕ
  pub offset : ℕ
  pub relation : Mark
  pub constant : ℕ
  pub count : ℕ
  pub variables : List ℕ
  pub coefficients : List ℕ

abbrev pub refusal : ℕ → ℕ → Reading
refusal n at = record { number = n; offset = at; relation = Equal; constant = zero_at; count = 0; variables = no_variables; coefficients = no_coefficients }

-- the code's answer, by its number; what a refusal has no word of is as in an empty constraint
abbrev pub shown : Result Constraint Refusal → Reading
shown (Ok c) = record { number = 0; offset = 0; relation = c.relation; constant = c.constant; count = c.count; variables = c.variables; coefficients = c.coefficients }
shown (Err r) = refusal (refusal_number r) (offset_of r)

-- the terms of the constraint in their places, nothing past them
abbrev pub as_read : Answer → Reading
as_read (reads r) =
    record {
      number = 0;
      offset = 0;
      relation = mark_of r.relation;
      constant = stands_as r.constant;
      count = length r.terms;
      variables = laid (λ t. t.variable) 0 r.terms no_variables;
      coefficients = laid (λ t. stands_as t.coefficient) 0 r.terms no_coefficients;
    }
as_read (outside at) = refusal 20 at
as_read (refused n) = refusal n 0

-- a fault of the code is the grammar's
pub faults : (f : Fault) → shown (Err (refused_by f)) ≡ as_read (refuses (number_of f) (place_of f))
faults (Astray b) = refl
faults (TooDeep b) = refl
faults (TooLarge b) = refl

-- ---- the terms that the code keeps

abbrev pub big_at : ℕ → Bool
big_at x = ltb x 9007199253692416 || ltb 9007199255789568 x

abbrev pub with_term : Kept → ℕ → ℕ → Kept
with_term k v x = record { big = k.big || big_at x; count = k.count + 1; variables = set k.variables k.count v; coefficients = set k.coefficients k.count x }

unfoldable pub kept_with : Kept → ℕ → ℕ → Kept
kept_with k v x = cond (eqb x zero_at) k (with_term k v x)

unfoldable pub kept_from : Kept → List Term → Kept
unfolding kept_with
kept_from k [] = k
kept_from k (t ∷ ts) = kept_from (kept_with k t.variable (stands_as t.coefficient)) ts

abbrev pub none_kept : Kept
none_kept = record { big = false; count = 0; variables = no_variables; coefficients = no_coefficients }

abbrev pub kept_of : List Term → Kept
kept_of ts = kept_from none_kept ts

-- ---- laws

pub stands : (x : ℕ) → stands_as (value_of x) ≡ x
stands x = omega (arith, PN-sub x zero_at)

pub mark-is : (m : Mark) → mark_of (relation_of m) ≡ m
mark-is AtMost = refl
mark-is Equal = refl
mark-is AtLeast = refl

-- a term that is zero
zero-stands : (z : ℤ) → eqb (stands_as z) zero_at ≡ eq_zb z (pos 0)
zero-stands (pos zero) = refl
zero-stands (pos (suc n)) = ne_eqb (zero_at + suc n - 0) zero_at (λ e. omega arith) ∙ sym (ne_eqb (suc n) 0 (λ e. omega arith))
zero-stands (negsuc n) = ne_eqb (zero_at + 0 - suc n) zero_at (λ e. omega arith)

-- a term that is too large
pub big-stands : (z : ℤ) → big_at (stands_as z) ≡ not (leb (nat_abs z) most)
big-stands (pos n) = by (leb n most) (leb-true n most) (leb-false n most)
  where
    by : (t : Bool) → (t ≡ true → n ≤ most) → (t ≡ false → most < n) → big_at (zero_at + n - 0) ≡ not t
    by true p q = rw (le-ltb (zero_at + n - 0) 9007199253692416 (omega arith), le-ltb 9007199255789568 (zero_at + n - 0) (omega (arith, p refl)))
    by false p q = rw (le-ltb (zero_at + n - 0) 9007199253692416 (omega arith), lt-ltb 9007199255789568 (zero_at + n - 0) (omega (arith, q refl)))
big-stands (negsuc n) = by (leb (suc n) most) (leb-true (suc n) most) (leb-false (suc n) most)
  where
    by : (t : Bool) → (t ≡ true → suc n ≤ most) → (t ≡ false → most < suc n) → big_at (zero_at + 0 - suc n) ≡ not t
    by true p q = rw (le-ltb (zero_at + 0 - suc n) 9007199253692416 (omega (arith, p refl)), le-ltb 9007199255789568 (zero_at + 0 - suc n) (omega arith))
    by false p q = rw (lt-ltb (zero_at + 0 - suc n) 9007199253692416 (omega (arith, q refl)))

pub set_past : {A : Type 0} (l : List A) (i : ℕ) (x : A) → length l ≤ i → set l i x ≡ l
set_past [] i x h = refl
set_past (y ∷ l) zero x h = absurd (not-suc-le-zero h)
set_past (y ∷ l) (suc i) x h = ap (λ (r : List _). y ∷ r) (set_past l i x (le_of_suc-le-suc h))

-- what is kept, all of it
module _ where
  pub big-from : (k : Kept) (ts : List Term) → (kept_from k ts).big ≡ k.big || not (small_terms (kept ts))
  unfolding kept_from kept_with kept small_terms
  big-from k [] = or-false k.big
    where
      or-false : (b : Bool) → b ≡ b || false
      or-false true = refl
      or-false false = refl
  big-from k (t ∷ ts) = ap (λ (b : Bool). (kept_from (cond b k (with_term k t.variable (stands_as t.coefficient))) ts).big) (zero-stands t.coefficient) ∙ by (eq_zb t.coefficient (pos 0)) (big-from k ts) (big-from (with_term k t.variable (stands_as t.coefficient)) ts)
    where
      or-and : (a b c : Bool) → (a || not b) || not c ≡ a || not (b && c)
      or-and true b c = refl
      or-and false true c = refl
      or-and false false c = refl

      by : (z : Bool) → (kept_from k ts).big ≡ k.big || not (small_terms (kept ts))
          → (kept_from (with_term k t.variable (stands_as t.coefficient)) ts).big ≡ (k.big || big_at (stands_as t.coefficient)) || not (small_terms (kept ts))
          → (kept_from (cond z k (with_term k t.variable (stands_as t.coefficient))) ts).big ≡ k.big || not (small_terms (cond z (kept ts) (t ∷ kept ts)))
      by true p q = p
      by false p q = q ∙ (ap (λ (b : Bool). (k.big || b) || not (small_terms (kept ts))) (big-stands t.coefficient) ∙ or-and k.big (leb (nat_abs t.coefficient) most) (small_terms (kept ts)))

  pub count-from : (k : Kept) (ts : List Term) → (kept_from k ts).count ≡ k.count + length (kept ts)
  unfolding kept_from kept_with kept
  count-from k [] = omega arith
  count-from k (t ∷ ts) = ap (λ (b : Bool). (kept_from (cond b k (with_term k t.variable (stands_as t.coefficient))) ts).count) (zero-stands t.coefficient) ∙ by (eq_zb t.coefficient (pos 0)) (count-from k ts) (count-from (with_term k t.variable (stands_as t.coefficient)) ts)
    where
      by : (z : Bool) → (kept_from k ts).count ≡ k.count + length (kept ts) → (kept_from (with_term k t.variable (stands_as t.coefficient)) ts).count ≡ k.count + 1 + length (kept ts)
          → (kept_from (cond z k (with_term k t.variable (stands_as t.coefficient))) ts).count ≡ k.count + length (cond z (kept ts) (t ∷ kept ts))
      by true p q = p
      by false p q = q ∙ e k.count (length (kept ts))
        where
          e : (a b : ℕ) → a + 1 + b ≡ a + suc b
          e a b = omega arith

  pub variables-from : (k : Kept) (ts : List Term) → (kept_from k ts).variables ≡ laid (λ t. t.variable) k.count (kept ts) k.variables
  unfolding kept_from kept_with kept laid
  variables-from k [] = refl
  variables-from k (t ∷ ts) = ap (λ (b : Bool). (kept_from (cond b k (with_term k t.variable (stands_as t.coefficient))) ts).variables) (zero-stands t.coefficient) ∙ by (eq_zb t.coefficient (pos 0)) (variables-from k ts) (variables-from (with_term k t.variable (stands_as t.coefficient)) ts)
    where
      by : (z : Bool) → (kept_from k ts).variables ≡ laid (λ t. t.variable) k.count (kept ts) k.variables
          → (kept_from (with_term k t.variable (stands_as t.coefficient)) ts).variables ≡ laid (λ t. t.variable) (k.count + 1) (kept ts) (set k.variables k.count t.variable)
          → (kept_from (cond z k (with_term k t.variable (stands_as t.coefficient))) ts).variables ≡ laid (λ t. t.variable) k.count (cond z (kept ts) (t ∷ kept ts)) k.variables
      by true p q = p
      by false p q = q ∙ ap (λ (i : ℕ). laid (λ t. t.variable) i (kept ts) (set k.variables k.count t.variable)) (add-one k.count)

  pub coefficients-from : (k : Kept) (ts : List Term) → (kept_from k ts).coefficients ≡ laid (λ t. stands_as t.coefficient) k.count (kept ts) k.coefficients
  unfolding kept_from kept_with kept laid
  coefficients-from k [] = refl
  coefficients-from k (t ∷ ts) = ap (λ (b : Bool). (kept_from (cond b k (with_term k t.variable (stands_as t.coefficient))) ts).coefficients) (zero-stands t.coefficient) ∙ by (eq_zb t.coefficient (pos 0)) (coefficients-from k ts) (coefficients-from (with_term k t.variable (stands_as t.coefficient)) ts)
    where
      by : (z : Bool) → (kept_from k ts).coefficients ≡ laid (λ t. stands_as t.coefficient) k.count (kept ts) k.coefficients
          → (kept_from (with_term k t.variable (stands_as t.coefficient)) ts).coefficients ≡ laid (λ t. stands_as t.coefficient) (k.count + 1) (kept ts) (set k.coefficients k.count (stands_as t.coefficient))
          → (kept_from (cond z k (with_term k t.variable (stands_as t.coefficient))) ts).coefficients ≡ laid (λ t. stands_as t.coefficient) k.count (cond z (kept ts) (t ∷ kept ts)) k.coefficients
      by true p q = p
      by false p q = q ∙ ap (λ (i : ℕ). laid (λ t. stands_as t.coefficient) i (kept ts) (set k.coefficients k.count (stands_as t.coefficient))) (add-one k.count)
