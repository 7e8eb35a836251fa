use Rattle.rows.specs.Marks.{cell_of, mark-clean}
use Rattle.steps.specs.Row.{cell_mark}
use Rattle.rows.proofs.cell.cell_mark.Goals as goal

pub returns-in-Kept : goal.returns-in-Kept
unfolding cell_of cell_mark
returns-in-Kept c = rw (c.in-Kept.is, c.nothing.ensures) mark-clean

pub returns-in-Written : goal.returns-in-Written
unfolding cell_of cell_mark
returns-in-Written c = rw c.in-Written.is c.mark_write.ensures
