-- The plain form as a tree of the grammar.
use Rattle.std.specs.Prelude.{ℕ, ◌≤◌, eqb, ℤ, nat_abs, ◌+ℤ◌}
use Rattle.std.proofs.Common.{arith}
use Rattle.std.proofs.Math.Bool.{cond}
use mathlib.Core.List.{List, [], ◌∷◌}
use Rattle.std.proofs.Math.IntN.{pos}
use Rattle.laws.specs.Z.{eq_zb}
use Rattle.grammar.specs.Sums.{Term, most, most_name}
use Rattle.grammar.specs.Trees.{Digits, Gap, a_part, a_sum, Tree, amount, variable, multiple, negated, single, added, subtracted}
use Rattle.grammar.specs.plain.Decimal.{decimal}
use Rattle.grammar.specs.plain.Plain.{is_negative}
use Rattle.grammar.specs.plain.Numbers.{decimal-reads}

abbrev pub tight : Gap
tight = record { before = 0; after = 0 }

abbrev pub digits_of : (n : ℕ) → n ≤ most_name → Digits
digits_of n h = record { bytes = decimal n; are-digits = (decimal-reads n h).digits }

pub wide : (n : ℕ) → n ≤ most → n ≤ most_name
wide n h = omega arith

-- ---- a term without its sign

module _ (n x : ℕ) (h : n ≤ most) (g : x ≤ most_name) where
  abbrev timed : Tree a_part
  timed = multiple (digits_of n (wide n h)) tight (variable (digits_of x g))

  abbrev pub part_of : Tree a_part
  part_of = cond (eqb n 1) (variable (digits_of x g)) timed

-- ---- a part joined to a sum under its sign, or first

module _ (z : ℤ) (u : Tree a_part) where
  abbrev pub join_tree : Tree a_sum → Tree a_sum
  join_tree s = cond (is_negative z) (subtracted s tight u) (added s tight u)

  abbrev pub first_tree : Tree a_sum
  first_tree = cond (is_negative z) (single (negated tight u)) (single u)

-- ---- the terms

-- what a term needs to have
abbrev pub Said : Term → Type 0
Said t = (nat_abs t.coefficient ≤ most) × (t.variable ≤ most_name)

abbrev pub AllSaid : List Term → Type 0
AllSaid [] = Unit {0}
AllSaid (t ∷ ts) = Said t × AllSaid ts

abbrev pub term_tree : (t : Term) → Said t → Tree a_part
term_tree t h = part_of (nat_abs t.coefficient) t.variable h.0 h.1

unfoldable pub next_tree : (ts : List Term) → AllSaid ts → Tree a_sum → Tree a_sum
next_tree [] h s = s
next_tree (t ∷ ts) h s = next_tree ts h.1 (join_tree t.coefficient (term_tree t h.0) s)

-- the coefficients of x, summed
unfoldable pub total_of : ℕ → List Term → ℤ
total_of x [] = pos 0
total_of x (t ∷ ts) = cond (eqb x t.variable) t.coefficient (pos 0) +ℤ total_of x ts

-- ---- the sum

module _ (c : ℤ) (small-c : nat_abs c ≤ most) where
  abbrev number : Tree a_part
  number = amount (digits_of (nat_abs c) (wide (nat_abs c) small-c))

  -- the constant behind terms
  abbrev with_constant : Tree a_sum → Tree a_sum
  with_constant s = cond (eq_zb c (pos 0)) s (join_tree c number s)

  abbrev pub sum_tree : (ts : List Term) → AllSaid ts → Tree a_sum
  sum_tree [] h = first_tree c number
  sum_tree (t ∷ ts) h = with_constant (next_tree ts h.1 (first_tree t.coefficient (term_tree t h.0)))
