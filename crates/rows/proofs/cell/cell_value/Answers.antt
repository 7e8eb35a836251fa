use Rattle.std.proofs.Common.{refl}
use Rattle.rows.specs.Marks.{cell_of}
use Rattle.steps.specs.Row.{cell_value}
use Rattle.rows.proofs.cell.cell_value.Goals as goal

pub returns-in-Kept : goal.returns-in-Kept
unfolding cell_of cell_value
returns-in-Kept c = rw c.in-Kept.is refl

pub returns-in-Written : goal.returns-in-Written
unfolding cell_of cell_value
returns-in-Written c = rw c.in-Written.is c.stored.ensures
