use mathlib.Core.Path.{refl}
use Rattle.steps.specs.Number.{zero64, below_zero}
use Rattle.waist.proofs.choices.can_enter.Goals as goal

pub returns : goal.returns
unfolding below_zero zero64
returns c = rw c.is_dummy.ensures refl
