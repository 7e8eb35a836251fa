-- The pivots of an answer against the budget. Assumes nothing.
use Prim.Native.Nat.{ℕ, ◌≤◌}
use native.Mathlib.Omega.{arith}
use mathlib.Core.Path.{◌≡◌, subst}
use mathlib.Core.Bool.{not}
use lib.Dec.{T}
use Rattle.steps.specs.State.{State}
use Rattle.steps.specs.Calls.{Result, refused_by, accepted_as}
use Rattle.steps.specs.Changing.{Changing, made, budget_of}
use Rattle.steps.proofs.Answered.{Answered, by_test, by_steps, accepts, answered}
use Rattle.steps.proofs.Numbers.{of_steps, test-number}

-- "Each changing call answers: accepted or a number below, pivots made, whole mark." Accepted or refused, these are no more than the budget.
pub within-budget : (c : Changing) (s : State) → (made c s).answer.pivots ≤ budget_of c
unfolding refused_by accepted_as
within-budget c s = go (answered c s)
  where
    go : {r : Result} → Answered c s r → r.answer.pivots ≤ budget_of c
    go (by_test n e) = omega arith
    go (by_steps n p m e x) = x.spent
    go (accepts v cs es e w k) = w.spent

-- 14: "a pass needs a pivot and the budget is used": every pivot of the budget was made.
pub budget-used : (c : Changing) (s : State) → (made c s).answer.number ≡ 14 → (made c s).answer.pivots ≡ budget_of c
unfolding refused_by accepted_as
budget-used c s = go (answered c s)
  where
    go : {r : Result} → Answered c s r → r.answer.number ≡ 14 → r.answer.pivots ≡ budget_of c
    go (by_test n e) h = absurd (subst (λ (k : ℕ). T (not (of_steps k))) h (test-number c s n e).1)
    go (by_steps n p m e x) h = x.used h
    go (accepts v cs es e w k) h = absurd (omega (arith, h))
