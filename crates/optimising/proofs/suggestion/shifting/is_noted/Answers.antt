use mathlib.Core.Path.{◌≡◌, refl}
use mathlib.Core.Bool.{Bool, true, false, ◌&&◌}
use Rattle.steps.specs.Number.{zero64}
use Rattle.optimising.specs.suggestion.Shifting.{optional, changes_by}
use Rattle.optimising.proofs.suggestion.shifting.is_noted.Goals as goal

never : (a : Bool) → false ≡ a && false
never true = refl
never false = refl

pub returns-in-Some : goal.returns-in-Some
unfolding optional changes_by zero64
returns-in-Some c = rw (c.in-Some.is, c.is_external.ensures) refl

pub returns-in-None : goal.returns-in-None
unfolding optional changes_by
returns-in-None c = rw c.in-None.is (never _)
