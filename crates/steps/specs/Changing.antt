-- The six changing calls as one type: a law of all of them is said once.
use Rattle.std.specs.Prelude.{ℕ, ◌≡◌, not, List, [], ◌∷◌, Float}
use Rattle.std.proofs.Math.Option.{some}
use Rattle.steps.specs.Number.{zero64, is_finite}
use Rattle.steps.specs.Strength.{clip}
use Rattle.steps.specs.State.{Term, Relation, strength_of, comparison_of, Tag, Constraint, Edit, State}
use Rattle.steps.specs.Tests.{Test, ◌if◌, find_edit, keep_constraint, drop_constraint, keep_edit, drop_edit, kept_terms, has_edit, add_tests, add_edit_tests, remove_tests, remove_edit_tests, drop_tests, group_of}
use Rattle.steps.specs.Calls.{Result, add, remove, drop_group, add_edit, remove_edit, suggest}

-- a changing call with its inputs, the budget last
pub data Changing : Type 0 where
  -- group, number, terms, constant, relation
  adds : ℕ → ℕ → List Term → Float → Relation → ℕ → Changing
  -- number
  removes : ℕ → ℕ → Changing
  -- group
  drops : ℕ → ℕ → Changing
  -- variable, strength
  adds_edit : ℕ → Float → ℕ → Changing
  -- variable
  removes_edit : ℕ → ℕ → Changing
  -- variable, suggestion
  suggests : ℕ → Float → ℕ → Changing

-- the call made on a state
abbrev pub made : Changing → State → Result
made (adds g n terms constant relation budget) s = add g n terms constant relation budget s
made (removes n budget) s = remove n budget s
made (drops g budget) s = drop_group g budget s
made (adds_edit n strength budget) s = add_edit n strength budget s
made (removes_edit n budget) s = remove_edit n budget s
made (suggests n new budget) s = suggest n new budget s

-- its budget
abbrev pub budget_of : Changing → ℕ
budget_of (adds g n terms constant relation budget) = budget
budget_of (removes n budget) = budget
budget_of (drops g budget) = budget
budget_of (adds_edit n strength budget) = budget
budget_of (removes_edit n budget) = budget
budget_of (suggests n new budget) = budget

-- its tests, "Tested in this order."; 18 is the lent tables'
abbrev pub tests : Changing → State → List Test
tests (adds g n terms constant relation budget) s = add_tests g n terms constant relation s
tests (removes n budget) s = remove_tests n s
tests (drops g budget) s = drop_tests g s
tests (adds_edit n strength budget) s = add_edit_tests n (clip strength) s
tests (removes_edit n budget) s = remove_edit_tests n s
tests (suggests n new budget) s = 1 if not (is_finite new) ∷ 8 if not (has_edit n s) ∷ []

-- their numbers
abbrev pub test_numbers : Changing → List ℕ
test_numbers (adds g n terms constant relation budget) = 26 ∷ 1 ∷ 2 ∷ 3 ∷ 4 ∷ 10 ∷ 9 ∷ 11 ∷ []
test_numbers (removes n budget) = 5 ∷ 25 ∷ []
test_numbers (drops g budget) = 26 ∷ 27 ∷ 25 ∷ []
test_numbers (adds_edit n strength budget) = 6 ∷ 7 ∷ 10 ∷ 9 ∷ 11 ∷ []
test_numbers (removes_edit n budget) = 8 ∷ 25 ∷ []
test_numbers (suggests n new budget) = 1 ∷ 8 ∷ []

-- the refusals that its steps give
abbrev pub step_numbers : Changing → List ℕ
step_numbers (adds g n terms constant relation budget) = 12 ∷ 13 ∷ 14 ∷ 15 ∷ []
step_numbers (removes n budget) = 13 ∷ 14 ∷ 15 ∷ 17 ∷ []
step_numbers (drops g budget) = 13 ∷ 14 ∷ 15 ∷ 17 ∷ []
step_numbers (adds_edit n strength budget) = 12 ∷ 13 ∷ 14 ∷ 15 ∷ []
step_numbers (removes_edit n budget) = 13 ∷ 14 ∷ 15 ∷ 17 ∷ []
step_numbers (suggests n new budget) = 13 ∷ 14 ∷ 16 ∷ []

-- without each of these constraints
unfoldable pub drop_each : List Constraint → List Constraint → List Constraint
drop_each [] cs = cs
drop_each (d ∷ ds) cs = drop_each ds (drop_constraint d.number cs)

-- the constraints and edits that it stores if it is accepted: added in their place with the tag that the steps gave, dropped, or with the new suggestion
abbrev pub Stores : Changing → State → List Constraint → List Edit → Type 0
Stores (adds g n terms constant relation budget) s cs es =
    (tag : Tag) × (cs ≡ keep_constraint (record { number = n; group = g; comparison = comparison_of relation; strength = strength_of relation; constant = constant; terms = kept_terms s.tableau.cutoff terms; tag = tag }) s.constraints) × (es ≡ s.edits)
Stores (removes n budget) s cs es = (cs ≡ drop_constraint n s.constraints) × (es ≡ s.edits)
Stores (drops g budget) s cs es = (cs ≡ drop_each (group_of g s.constraints) s.constraints) × (es ≡ s.edits)
Stores (adds_edit n strength budget) s cs es =
    (tag : Tag) × (cs ≡ s.constraints) × (es ≡ keep_edit (record { variable = n; strength = clip strength; tag = tag; suggestion = zero64 }) s.edits)
Stores (removes_edit n budget) s cs es = (cs ≡ s.constraints) × (es ≡ drop_edit n s.edits)
Stores (suggests n new budget) s cs es =
    (e : Edit)
    × (find_edit n s.edits ≡ some e)
    × (cs ≡ s.constraints)
    × (es ≡ keep_edit (record { variable = n; strength = e.strength; tag = e.tag; suggestion = new }) (drop_edit n s.edits))
