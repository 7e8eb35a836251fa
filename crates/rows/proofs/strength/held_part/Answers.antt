use Rattle.steps.specs.Number.{zero64}
use Rattle.steps.specs.Strength.{held_part, medium}
use Rattle.rows.proofs.strength.held_part.Goals as goal

pub returns-then-x-2 : goal.returns-then-x-2
unfolding held_part zero64 medium
returns-then-x-2 c = rw (c.if-x.true, c.if-x-2.true)

pub returns-else-x-2 : goal.returns-else-x-2
unfolding held_part zero64 medium
returns-else-x-2 c = rw (c.if-x.true, c.if-x-2.false)

pub returns-else-x : goal.returns-else-x
unfolding held_part zero64
returns-else-x c = rw c.if-x.false
