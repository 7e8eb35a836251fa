use Rattle.rows.specs.Marks.{cell_of, insert_cell-is}
use Rattle.steps.specs.Number.{zero64}
use Rattle.steps.specs.Symbol.{absent}
use Rattle.rows.proofs.cell.insert_cell.Goals as goal

pub returns-then-near_zero : goal.returns-then-near_zero
unfolding cell_of absent zero64
returns-then-near_zero c = rw (insert_cell-is _, c.if-old.true, ← c.near_zero.ensures, c.if-near_zero.true)

pub returns-else-near_zero : goal.returns-else-near_zero
unfolding cell_of absent zero64
returns-else-near_zero c = rw (insert_cell-is _, c.if-old.true, ← c.near_zero.ensures, c.if-near_zero.false)

pub returns-else-old : goal.returns-else-old
unfolding cell_of absent zero64
returns-else-old c = rw (insert_cell-is _, c.if-old.false, c.goes_if_near_zero.ensures)
