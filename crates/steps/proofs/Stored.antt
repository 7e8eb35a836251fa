-- What an accepted call stores beside the tableau: its constraint, its edit, its suggestion. Assumes nothing.
use native.Mathlib.Omega.{arith}
use mathlib.Core.Path.{◌≡◌}
use Rattle.steps.specs.State.{State}
use Rattle.steps.specs.Calls.{Result, finish, refused_by, accepted_as}
use Rattle.steps.specs.Changing.{Changing, made, Stores}
use Rattle.steps.proofs.Answered.{Answered, by_test, by_steps, accepts, answered}
use Rattle.steps.proofs.Numbers.{test-number, step-number}

-- an accepted call stores its constraint or edit, drops it, or keeps the new suggestion, and leaves the others as they were: none accepts and stores nothing
pub accepted-stores : (c : Changing) (s : State) → (made c s).answer.number ≡ 0 → Stores c s (made c s).state.constraints (made c s).state.edits
unfolding refused_by accepted_as finish
accepted-stores c s = go (answered c s)
  where
    go : {r : Result} → Answered c s r → r.answer.number ≡ 0 → Stores c s r.state.constraints r.state.edits
    go (by_test n e) h = absurd (omega (arith, h, (test-number c s n e).0))
    go (by_steps n p m e x) h = absurd (omega (arith, h, (step-number c n x.listed).0))
    go (accepts v cs es e w k) h = k
