use native.Mathlib.Omega.{arith}
use Rattle.rows.specs.Table.{inserted-value, inserted-mark}
use Rattle.layout.specs.cells.Cells.{cells}
use Rattle.waist.specs.merging.Merging.{put-value}
use Rattle.waist.proofs.merging.merge.put_sum.Goals as goal

pub returns : goal.returns
returns c = record { size_after = put-value _ _ _ (cells _ _ _) c.put_if-next.ensures.result_after (inserted-value _ _ _ _ c.cell_value.ensures c.inserted-l.ensures); wrote_value = inserted-mark _ _ _ _ _ _ c.mark_cell.ensures c.inserted-l.ensures; size_bound = omega arith }
