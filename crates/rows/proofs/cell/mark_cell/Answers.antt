use Rattle.std.proofs.Common.{refl}
use Rattle.rows.specs.Marks.{joined-mark}
use Rattle.rows.proofs.cell.mark_cell.Goals as goal

pub returns : goal.returns
returns c = joined-mark _ _ c.joined.ensures refl c.cell_mark.ensures
