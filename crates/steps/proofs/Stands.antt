-- What was told of the variables stands after every changing call, accepted or refused. Assumes nothing.
use Rattle.steps.specs.State.{State}
use Rattle.steps.specs.Calls.{Result, finish, refused_by, accepted_as}
use Rattle.steps.specs.Changing.{Changing, made}
use Rattle.steps.proofs.Told.{Shed, shed-refl}
use Rattle.steps.proofs.Answered.{Answered, by_test, by_steps, accepts, answered}

-- gone entries and reported variables together are no more than before, and of a number that doesn't wait among the gone the last value told is the same: no call forgets a gone entry or an old value
pub told-stands : (c : Changing) (s : State) → Shed s.changes (made c s).state.changes
unfolding refused_by accepted_as finish
told-stands c s = go (answered c s)
  where
    go : {r : Result} → Answered c s r → Shed s.changes r.state.changes
    go (by_test n e) = shed-refl s.changes
    go (by_steps n p m e x) = shed-refl s.changes
    go (accepts w cs es e h k) = h.told
