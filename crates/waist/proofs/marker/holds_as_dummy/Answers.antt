use lib.Ieee.{ne}
use Rattle.steps.specs.Number.{zero64}
use Rattle.steps.specs.Symbol.{absent, holds}
use Rattle.waist.proofs.marker.holds_as_dummy.Goals as goal

pub returns : goal.returns
unfolding holds absent zero64 ne
returns c = rw c.is_dummy.ensures
