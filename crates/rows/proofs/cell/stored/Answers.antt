use Rattle.steps.specs.Number.{zero64}
use Rattle.steps.specs.Row.{stored}
use Rattle.steps.specs.Symbol.{absent}
use Rattle.rows.proofs.cell.stored.Goals as goal

pub returns-then-c : goal.returns-then-c
unfolding stored absent zero64
returns-then-c c = rw c.if-c.true

pub returns-else-c : goal.returns-else-c
unfolding stored absent zero64
returns-else-c c = rw c.if-c.false
