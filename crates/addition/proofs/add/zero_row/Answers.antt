use mathlib.Core.Path.{refl}
use Rattle.steps.specs.Number.{zero64}
use Rattle.addition.proofs.add.zero_row.Goals as goal

pub returns : goal.returns
unfolding zero64
returns c = refl
