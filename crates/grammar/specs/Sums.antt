-- What a line is summed to, and what it is answered.
use Rattle.std.specs.Prelude.{ℕ, ◌*◌, Bool, true, false, cond, not, ◌&&◌, List, [], ◌∷◌, leb, ltb, eqb, length, ℤ, pos, neg_ℤ, nat_abs, ◌+ℤ◌}
use Rattle.laws.specs.Z.{eq_zb}

-- "one of `<=`, `=`, `>=`"
pub data Relation : Type 0 where
  at_most equal at_least : Relation

pub record Term : Type 0 where
  pub variable : ℕ
  pub coefficient : ℤ

-- a constant and terms, ascending by variable, zero ones with them
pub record Sums : Type 0 where
  pub constant : ℤ
  pub terms : List Term

pub record Reading : Type 0 where
  pub relation : Relation
  pub constant : ℤ
  pub terms : List Term

-- the constraint that a line reads as; 20 with the offset; or another refusal's number
pub data Answer : Type 0 where
  reads : Reading → Answer
  outside : (offset : ℕ) → Answer
  refused : (number : ℕ) → Answer

-- a number, a product of multipliers, a summed coefficient or constant: at most this in size
abbrev pub most : ℕ
most = 1048576

-- a variable's number: at most this
abbrev pub most_name : ℕ
most_name = 4294967295

-- ---- what stands over a part: the sign, and the product of all multipliers

pub record Factor : Type 0 where
  pub negative : Bool
  pub times : ℕ

abbrev pub one : Factor
one = record { negative = false; times = 1 }

abbrev pub turned : Factor → Factor
turned f = record { negative = not f.negative; times = f.times }

abbrev pub multiplied : Factor → ℕ → Factor
multiplied f n = record { negative = f.negative; times = f.times * n }

-- n under a sign
abbrev pub signed : Bool → ℕ → ℤ
signed false n = pos n
signed true n = neg_ℤ (pos n)

-- ---- sums

abbrev pub nothing : Sums
nothing = record { constant = pos 0; terms = [] }

unfoldable pub add_to : ℕ → ℤ → List Term → List Term
add_to v c [] = record { variable = v; coefficient = c } ∷ []
add_to v c (t ∷ ts) =
    cond (ltb v t.variable) (record { variable = v; coefficient = c } ∷ t ∷ ts)
    (cond (eqb v t.variable) (record { variable = v; coefficient = t.coefficient +ℤ c } ∷ ts) (t ∷ add_to v c ts))

-- the number n as a part
abbrev pub with_number : Factor → ℕ → Sums → Sums
with_number f n s = record { constant = s.constant +ℤ signed f.negative (f.times * n); terms = s.terms }

-- the variable v as a part
abbrev pub with_variable : Factor → ℕ → Sums → Sums
with_variable f v s = record { constant = s.constant; terms = add_to v (signed f.negative f.times) s.terms }

-- ---- once the whole line reads

-- "zero ones dropped"
unfoldable pub kept : List Term → List Term
kept [] = []
kept (t ∷ ts) = cond (eq_zb t.coefficient (pos 0)) (kept ts) (t ∷ kept ts)

unfoldable pub small_terms : List Term → Bool
small_terms [] = true
small_terms (t ∷ ts) = leb (nat_abs t.coefficient) most && small_terms ts

-- "once the whole line reads, 22 a summed coefficient or constant above 1,048,576 in size, then 23 more than 16 variables"
unfoldable pub judged : Reading → Answer
unfolding small_terms
judged r = cond (leb (nat_abs r.constant) most && small_terms r.terms) (cond (leb (length r.terms) 16) (reads r) (refused 23)) (refused 22)

abbrev pub summed : Relation → Sums → Reading
summed r s = record { relation = r; constant = s.constant; terms = kept s.terms }
