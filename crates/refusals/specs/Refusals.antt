-- The tests before the steps, of the words, the bytes, the reals and a pack of terms, as the code runs them: the number of the first that fails, 0 if none does.
use Rattle.std.specs.Prelude.{ℕ, ◌+◌, ◌≤◌, Bool, false, not, ◌&&◌, cond, List, [], ◌∷◌, eqb, leb, ltb, get_or, Float}
use Rattle.std.specs.Float.{nan}
use Rattle.std.specs.Float.Ieee.{eq, ne}
use Rattle.steps.specs.Number.{one64, below_zero, is_finite}
use Rattle.steps.specs.Strength.{required}
use Rattle.laws.specs.Lists.{all_in, sum_in}
use Rattle.layout.specs.Layout.{bit_of}
use Rattle.layout.specs.Copy.{most16}
use Rattle.sparse.specs.Places.{most_variables, most_constraints, most_terms, most_gone, next_id_at, variable_count_at, constraint_count_at, edit_count_at, gone_count_at, variable_numbers_at, variable_uses_at, constraint_numbers_at, constraint_groups_at, gone_numbers_at, variable_places_at, term_counts_at, terms_at, old_values_at, cutoff_at}
use Rattle.sparse.specs.Lookup.{place_from, Ascends}
use Rattle.sparse_test.specs.Tested.{term_count}
use Rattle.sparse_test.specs.Asked.{edit_in}
use Rattle.changes.specs.declared.terms.Pack.{Pack}
use Rattle.changes.specs.terms.Terms.{pack_of, kept_of}
use Rattle.refusals.specs.declared.gone.Taken.{Taken}
use Rattle.refusals.specs.declared.gone.Taken.TheVariants.{Constraint, Edit, Group}

-- ---- counts, and the cutoff of near zero

abbrev pub next_in : List ℕ → ℕ
next_in w = get_or w next_id_at 0

abbrev pub variables_in : List ℕ → ℕ
variables_in w = get_or w variable_count_at 0

abbrev pub constraints_in : List ℕ → ℕ
constraints_in w = get_or w constraint_count_at 0

abbrev pub edits_in : List ℕ → ℕ
edits_in w = get_or w edit_count_at 0

abbrev pub gone_in : List ℕ → ℕ
gone_in w = get_or w gone_count_at 0

abbrev pub cutoff_in : List Float → Float
cutoff_in r = get_or r cutoff_at nan

-- ---- what is looked up

-- one of the c words from place a on is the number x
unfoldable pub live_in : List ℕ → ℕ → ℕ → ℕ → Bool
live_in w a c x = ltb (place_from w a c x) c

-- the variable of the number x has an edit
unfoldable pub edited_in : List ℕ → List ℕ → ℕ → Bool
edited_in w b x = edit_in w b (variables_in w) (edits_in w) x

-- which of the first c constraints is the group's first, c if none is in it
abbrev pub group_place : List ℕ → ℕ → ℕ → ℕ
group_place w c g = place_from w constraint_groups_at c g

-- one of the first c constraints is in the group
abbrev pub group_in : List ℕ → ℕ → ℕ → Bool
group_in w c g = live_in w constraint_groups_at c g

-- the variable of the term at place i is none of those before it
unfoldable pub is_first_of : Pack → ℕ → Bool
is_first_of p i = all_in (λ j. not (eqb (get_or p.vars i 0) (get_or p.vars j 0))) 0 i

-- 1 if the term at place i has a variable that is neither live nor a term's before it
unfoldable pub new_at : List ℕ → ℕ → Pack → ℕ → ℕ
new_at w v p i = bit_of (not (live_in w variable_numbers_at v (get_or p.vars i 0)) && is_first_of p i)

-- how many variables of the pack's terms are not live, each counted once
unfoldable pub new_in : List ℕ → ℕ → Pack → ℕ
new_in w v p = sum_in (new_at w v p) 0 (most16 p.count)

-- ---- the tests that Add and Add edit share: "10, 9, 11"

-- 10: "48 constraints live", edits counted
unfoldable pub constraints_full_in : List ℕ → Bool
constraints_full_in w = leb most_constraints (constraints_in w + edits_in w)

-- 9: "live variables plus the new ones in terms not near zero exceed 32", by the cutoff u
unfoldable pub variables_full_in : Float → List ℕ → Pack → Bool
variables_full_in u w p = ltb most_variables (variables_in w + new_in w (variables_in w) (kept_of u p))

-- 11: "next id is above 4,294,900,000"
unfoldable pub ids_used_in : List ℕ → Bool
ids_used_in w = ltb 4_294_900_000 (next_in w)

unfoldable pub room_refusal : Float → List ℕ → Pack → ℕ
room_refusal u w p = cond (constraints_full_in w) 10 (cond (variables_full_in u w p) 9 (cond (ids_used_in w) 11 0))

-- ---- 25: the gone entries that a removal makes

-- what the test of 25 takes for granted of the tables
pub record Tabled (w b : List ℕ) : Type 0 where
  pub variables : variables_in w ≤ most_variables
  pub constraints : constraints_in w ≤ most_constraints
  pub terms : term_count b (constraints_in w) ≤ most_terms
  pub gone : gone_in w ≤ most_gone
  pub gone_up : Ascends w gone_numbers_at (gone_in w)

-- the constraint at place c is taken
unfoldable pub takes_in : List ℕ → Taken → ℕ → Bool
takes_in w (Constraint n) c = eqb n (get_or w (constraint_numbers_at + c) 0)
takes_in w (Edit n) c = false
takes_in w (Group g) c = eqb g (get_or w (constraint_groups_at + c) 0)

-- 1 if the edit of the variable n is taken
unfoldable pub edit_use : Taken → ℕ → ℕ
edit_use (Constraint m) n = 0
edit_use (Edit m) n = bit_of (eqb n m)
edit_use (Group g) n = 0

-- how many of the n terms from the one at place `from` on are of the variable whose symbol stands at place p
unfoldable pub uses_at : List ℕ → ℕ → ℕ → ℕ → ℕ
uses_at b from n p = sum_in (λ j. bit_of (eqb p (get_or b (terms_at + (from + j)) 0))) 0 n

-- how many terms of the constraint at place c are, if it is taken
unfoldable pub taken_at : List ℕ → List ℕ → Taken → ℕ → ℕ → ℕ
taken_at w b x p c = cond (takes_in w x c) (uses_at b (term_count b c) (get_or b (term_counts_at + c) 0) p) 0

-- how often the variable at place i is in the terms that are taken
unfoldable pub taken_in : List ℕ → List ℕ → Taken → ℕ → ℕ
taken_in w b x i = edit_use x (get_or w (variable_numbers_at + i) 0) + sum_in (taken_at w b x (get_or b (variable_places_at + i) 0)) 0 (constraints_in w)

-- the variable at place i goes, was reported, and no gone entry waits for its number
unfoldable pub entry_at : List ℕ → List ℕ → List Float → Taken → ℕ → Bool
entry_at w b r x i =
    ltb 0 (get_or w (variable_uses_at + i) 0)
    && leb (get_or w (variable_uses_at + i) 0) (taken_in w b x i)
    && not (ne (get_or r (old_values_at + i) nan) (get_or r (old_values_at + i) nan))
    && not (live_in w gone_numbers_at (gone_in w) (get_or w (variable_numbers_at + i) 0))

-- how many gone entries more there will be
unfoldable pub entries_in : List ℕ → List ℕ → List Float → Taken → ℕ
entries_in w b r x = sum_in (λ i. bit_of (entry_at w b r x i)) 0 (variables_in w)

-- "25 a removal would make a 33rd gone entry"
unfoldable pub gone_full_in : List ℕ → List ℕ → List Float → Taken → Bool
gone_full_in w b r x = ltb most_gone (gone_in w + entries_in w b r x)

-- ---- the tests of a call

-- 1, 2, 3: what a caller hands in, and then the rest
unfoldable pub input_refusal : Pack → Float → Float → ℕ → ℕ
input_refusal p constant strength rest = cond (not (p.finite && is_finite constant && is_finite strength)) 1 (cond (below_zero strength) 2 (cond (eqb p.count 17) 3 rest))

-- "Add: 18, 26, 1, 2, 3, 4, 10, 9, 11."
unfoldable pub add_refusal : Float → ℕ → ℕ → Pack → Float → Float → List ℕ → ℕ
add_refusal u g x p constant strength w = cond (eqb g 0) 26 (input_refusal p constant strength (cond (live_in w constraint_numbers_at (constraints_in w) x) 4 (room_refusal u w p)))

-- the one term of an edit, the variable times 1
unfoldable pub edit_pack : ℕ → Pack
edit_pack x = pack_of (record { variable = x; coefficient = one64 } ∷ [])

-- "Add edit: 18, 6, 7, 10, 9, 11." The strength comes clipped.
unfoldable pub add_edit_refusal : Float → ℕ → Float → List ℕ → List ℕ → ℕ
add_edit_refusal u x strength w b = cond (edited_in w b x) 6 (cond (eq strength required) 7 (room_refusal u w (edit_pack x)))

-- "Suggest: 18, 1, 8."
unfoldable pub suggest_refusal : ℕ → Float → List ℕ → List ℕ → ℕ
suggest_refusal x new w b = cond (not (is_finite new)) 1 (cond (not (edited_in w b x)) 8 0)

-- "Remove: 18, 5, 25."
unfoldable pub remove_refusal : ℕ → List ℕ → List ℕ → List Float → ℕ
remove_refusal x w b r = cond (not (live_in w constraint_numbers_at (constraints_in w) x)) 5 (cond (gone_full_in w b r (Constraint x)) 25 0)

-- "Remove edit: 18, 8, 25."
unfoldable pub remove_edit_refusal : ℕ → List ℕ → List ℕ → List Float → ℕ
remove_edit_refusal x w b r = cond (not (edited_in w b x)) 8 (cond (gone_full_in w b r (Edit x)) 25 0)

-- "Drop: 18, 26, 27, 25."
unfoldable pub drop_refusal : ℕ → List ℕ → List ℕ → List Float → ℕ
drop_refusal g w b r = cond (eqb g 0) 26 (cond (not (group_in w (constraints_in w) g)) 27 (cond (gone_full_in w b r (Group g)) 25 0))
