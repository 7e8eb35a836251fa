use Rattle.steps.specs.Number.{zero64, below_zero}
use Rattle.addition.specs.creation.Created.{reversed-taken, reversed-left}
use Rattle.addition.proofs.creation.create.reverse_below.Goals as goal

pub returns-then-row : goal.returns-then-row
unfolding below_zero zero64
returns-then-row c = reversed-taken _ _ c.if-row.true c.reverse_sign.ensures

pub returns-else-row : goal.returns-else-row
unfolding below_zero zero64
returns-else-row c = reversed-left _ _ c.if-row.false
