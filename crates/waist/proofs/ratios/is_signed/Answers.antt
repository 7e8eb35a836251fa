use Rattle.steps.specs.Number.{zero64, below_zero}
use Rattle.waist.specs.Ratios.{signed}
use Rattle.waist.proofs.ratios.is_signed.Goals as goal

pub returns-then-down : goal.returns-then-down
unfolding signed below_zero zero64
returns-then-down c = rw c.if-down.true

pub returns : goal.returns
unfolding signed zero64
returns c = rw c.if-down.false
