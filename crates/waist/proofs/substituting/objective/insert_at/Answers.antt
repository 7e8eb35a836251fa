use mathlib.Core.Path.{refl}
use Rattle.steps.specs.Number.{zero64, objective_bound}
use Rattle.steps.specs.Symbol.{absent}
use Rattle.rows.specs.Table.{passed_over, passed-mark, there-is, inserted-value, inserted-mark}
use Rattle.waist.proofs.substituting.objective.insert_at.Goals as goal

pub returns-then-o : goal.returns-then-o
unfolding absent zero64
returns-then-o c = record { result_value = passed-mark _ _ _ _ _ _ c.if-o.true; reals_after = passed_over _ _ _ _ _ c.if-o.true }

pub returns : goal.returns
unfolding absent zero64 objective_bound
returns c = record { result_value = inserted-mark _ _ _ _ _ _ c.mark_cell.ensures (there-is _ _ _ _ c.if-o.false c.insert_cell-c.ensures); reals_after = rw (inserted-value _ _ _ _ c.cell_value.ensures (there-is _ _ _ _ c.if-o.false c.insert_cell-c.ensures)) refl }
