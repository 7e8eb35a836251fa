use mathlib.Core.Path.{refl}
use Rattle.steps.specs.Number.{zero64}
use Rattle.removal.proofs.marker.leaves_noted.Goals as goal

pub returns : goal.returns
unfolding zero64
returns c = rw c.is_external.ensures refl
