use Rattle.std.proofs.Common.{refl}
use Rattle.rows.specs.Marks.{joined-mark}
use Rattle.rows.specs.Table.{added_constant, insert_row_changed, insert_row_in, insert_row_mark}
use Rattle.steps.specs.Number.{cell_bound, constant_bound, zero64}
use Rattle.rows.proofs.row.insert_row.Goals as goal

pub returns : goal.returns
unfolding insert_row_changed insert_row_mark insert_row_in added_constant zero64 constant_bound cell_bound
returns c = record { changed_value = refl; wrote_value = joined-mark _ _ c.joined.ensures c.mark_write.ensures c.insert_cells-w.ensures.result_value; row_after = c.insert_cells-w.ensures.row_after }
