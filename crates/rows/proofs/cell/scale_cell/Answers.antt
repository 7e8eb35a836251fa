use lib.Ieee.{ne}
use Rattle.rows.specs.Marks.{cell_of}
use Rattle.steps.specs.Number.{zero64}
use Rattle.steps.specs.Row.{scale_cell}
use Rattle.steps.specs.Symbol.{absent}
use Rattle.rows.proofs.cell.scale_cell.Goals as goal

pub returns-then-c : goal.returns-then-c
unfolding cell_of scale_cell absent zero64 ne
returns-then-c c = rw c.if-c.true

pub returns-else-c : goal.returns-else-c
unfolding cell_of scale_cell absent zero64 ne
returns-else-c c = rw c.if-c.false
