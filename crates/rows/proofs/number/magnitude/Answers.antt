use Rattle.steps.specs.Number.{magnitude, zero64}
use Rattle.rows.proofs.number.magnitude.Goals as goal

pub returns-then-x : goal.returns-then-x
unfolding magnitude zero64
returns-then-x c = rw c.if-x.true

pub returns-else-x : goal.returns-else-x
unfolding magnitude zero64
returns-else-x c = rw c.if-x.false
