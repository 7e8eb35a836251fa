-- "Add a writer with one plain form: no spaces or brackets, terms ascending by variable, then the constant unless it is zero and terms stand, the relation, a right side of `0`, and the ending unless it is required and group 1."
use Rattle.std.specs.Prelude.{ℕ, Bool, true, false, cond, not, ◌&&◌, List, [], ◌∷◌, ◌++◌, leb, ltb, eqb, length, ℤ, pos, negsuc, nat_abs}
use Rattle.laws.specs.Z.{eq_zb}
use Rattle.grammar.specs.Sums.{Term, Reading, most, most_name}
use Rattle.grammar.specs.Trees.{mark_of}
use Rattle.grammar.specs.edition.Endings.{Constraint, required, is_group}
use Rattle.grammar.specs.plain.Decimal.{decimal}

-- ---- the plain form: - + * v @ ,

abbrev pub is_negative : ℤ → Bool
is_negative (pos n) = false
is_negative (negsuc n) = true

-- the sign of what stands first, and of what follows
abbrev pub first_sign : ℤ → List ℕ
first_sign z = cond (is_negative z) (45 ∷ []) []

abbrev pub next_sign : ℤ → List ℕ
next_sign z = cond (is_negative z) (45 ∷ []) (43 ∷ [])

-- "In a coefficient a size of 1 is left out."
abbrev pub size_text : ℕ → List ℕ
size_text n = cond (eqb n 1) [] (decimal n ++ (42 ∷ []))

-- without its sign
abbrev pub term_text : Term → List ℕ
term_text t = size_text (nat_abs t.coefficient) ++ (118 ∷ decimal t.variable)

-- the terms behind the first
unfoldable pub next_text : List Term → List ℕ
next_text [] = []
next_text (t ∷ ts) = next_sign t.coefficient ++ (term_text t ++ next_text ts)

-- "then the constant unless it is zero and terms stand"
abbrev pub constant_text : ℤ → List ℕ
constant_text c = cond (eq_zb c (pos 0)) [] (next_sign c ++ decimal (nat_abs c))

abbrev pub sum_text : ℤ → List Term → List ℕ
sum_text c [] = first_sign c ++ decimal (nat_abs c)
sum_text c (t ∷ ts) = first_sign t.coefficient ++ (term_text t ++ (next_text ts ++ constant_text c))

-- "the ending unless it is required and group 1"
abbrev pub ending_text : ℕ → ℕ → List ℕ
ending_text n g = cond (eqb n required && eqb g 1) [] (64 ∷ (decimal n ++ (44 ∷ decimal g)))

-- "the relation, a right side of `0`"
unfoldable pub plain_text : Constraint → List ℕ
unfolding decimal next_text
plain_text c = sum_text c.reading.constant c.reading.terms ++ (mark_of c.reading.relation ++ (48 ∷ ending_text c.strength c.group))

-- ---- what a line can say

abbrev pub below_first : ℕ → List Term → Bool
below_first x [] = true
below_first x (t ∷ ts) = ltb x t.variable

-- "terms ascending by variable"
unfoldable pub ascends : List Term → Bool
ascends [] = true
ascends (t ∷ ts) = below_first t.variable ts && ascends ts

abbrev pub term_said : Term → Bool
term_said t = not (eq_zb t.coefficient (pos 0)) && (leb (nat_abs t.coefficient) most && leb t.variable most_name)

unfoldable pub terms_said : List Term → Bool
terms_said [] = true
terms_said (t ∷ ts) = term_said t && terms_said ts

abbrev pub reading_said : Reading → Bool
reading_said r = leb (length r.terms) 16 && (ascends r.terms && (terms_said r.terms && leb (nat_abs r.constant) most))

unfoldable pub sayable : Constraint → Bool
unfolding ascends terms_said
sayable c = reading_said c.reading && (leb c.strength required && is_group c.group)

-- ---- the writer

pub data Written : Type 0 where
  wrote : (line : List ℕ) → Written
  refused : (number : ℕ) → Written

-- "Its lent buffer is 200 bytes"
abbrev pub room : ℕ
room = 200

-- "the writer gives 36 for terms not ascending or anything a line can't say, then 32, and its buffer is all zero"
unfoldable pub write_line : Constraint → Written
unfolding plain_text sayable
write_line c = cond (sayable c) (cond (leb (length (plain_text c)) room) (wrote (plain_text c)) (refused 32)) (refused 36)
