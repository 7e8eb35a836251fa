use Rattle.std.proofs.Common.{refl}
use Rattle.steps.specs.Symbol.{absent}
use Rattle.steps.specs.Number.{zero64, cell_bound}
use Rattle.rows.specs.Table.{unscaled-over, unscaled-mark, scaled_value_lem, scaled-mark}
use Rattle.rows.proofs.row.scale_at.Goals as goal

pub returns-then-row-i : goal.returns-then-row-i
unfolding absent zero64
returns-then-row-i c = record { result_value = unscaled-mark _ _ _ c.if-row-i.true; row_after = unscaled-over _ _ _ c.if-row-i.true }

pub returns : goal.returns
unfolding cell_bound
returns c = record { result_value = scaled-mark _ _ _ c.mark_cell.ensures c.scale_cell-c.ensures; row_after = rw (scaled_value_lem _ _ c.cell_value.ensures c.scale_cell-c.ensures) refl }
