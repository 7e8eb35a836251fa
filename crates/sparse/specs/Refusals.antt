-- The refusals' numbers: "A refusal gives its number".
use Rattle.std.specs.Prelude.{ℕ, ◌≡◌, Result, Ok, Err}
use Rattle.std.proofs.Common.{arith}
use Rattle.sparse.specs.declared.refusal.Refusal.{Refusal}
use Rattle.sparse.specs.declared.refusal.Refusal.TheVariants.{NotFinite, NegativeStrength, TooManyTerms, ConstraintLive, NoConstraint, EditLive, RequiredEdit, NoEdit, VariablesFull, ConstraintsFull, IdsFull, CannotBeMet, StepNotFinite, BudgetUsed, NoLeavingRow, NoEnteringSymbol, NoRemovalRow, NoState, CutoffOutside, GoneFull, GroupZero, NoGroup}

abbrev pub refusal_number : Refusal → ℕ
refusal_number NotFinite = 1
refusal_number NegativeStrength = 2
refusal_number TooManyTerms = 3
refusal_number ConstraintLive = 4
refusal_number NoConstraint = 5
refusal_number EditLive = 6
refusal_number RequiredEdit = 7
refusal_number NoEdit = 8
refusal_number VariablesFull = 9
refusal_number ConstraintsFull = 10
refusal_number IdsFull = 11
refusal_number CannotBeMet = 12
refusal_number StepNotFinite = 13
refusal_number BudgetUsed = 14
refusal_number NoLeavingRow = 15
refusal_number NoEnteringSymbol = 16
refusal_number NoRemovalRow = 17
refusal_number NoState = 18
refusal_number CutoffOutside = 24
refusal_number GoneFull = 25
refusal_number GroupZero = 26
refusal_number NoGroup = 27

-- 0 is no refusal's
pub number-some : (e : Refusal) → refusal_number e ≡ 0 → ⊥
number-some NotFinite h = omega (arith, h)
number-some NegativeStrength h = omega (arith, h)
number-some TooManyTerms h = omega (arith, h)
number-some ConstraintLive h = omega (arith, h)
number-some NoConstraint h = omega (arith, h)
number-some EditLive h = omega (arith, h)
number-some RequiredEdit h = omega (arith, h)
number-some NoEdit h = omega (arith, h)
number-some VariablesFull h = omega (arith, h)
number-some ConstraintsFull h = omega (arith, h)
number-some IdsFull h = omega (arith, h)
number-some CannotBeMet h = omega (arith, h)
number-some StepNotFinite h = omega (arith, h)
number-some BudgetUsed h = omega (arith, h)
number-some NoLeavingRow h = omega (arith, h)
number-some NoEnteringSymbol h = omega (arith, h)
number-some NoRemovalRow h = omega (arith, h)
number-some NoState h = omega (arith, h)
number-some CutoffOutside h = omega (arith, h)
number-some GoneFull h = omega (arith, h)
number-some GroupZero h = omega (arith, h)
number-some NoGroup h = omega (arith, h)

-- the number of what a test gives, or what the tests after it give
abbrev pub number_or : ℕ → Result Unit Refusal → ℕ
number_or rest (Ok x) = rest
number_or rest (Err e) = refusal_number e

-- 0 if no test fails
abbrev pub number_of : Result Unit Refusal → ℕ
number_of = number_or 0
