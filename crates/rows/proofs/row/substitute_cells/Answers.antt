use Rattle.std.proofs.Common.{refl}
use Rattle.rows.specs.Marks.{mark-clean}
use Rattle.rows.specs.Table.{substitute_cells_in, substitute_cells_mark}
use Rattle.steps.specs.Number.{zero64}
use Rattle.steps.specs.Symbol.{absent}
use Rattle.rows.proofs.row.substitute_cells.Goals as goal

pub returns-then-k : goal.returns-then-k
unfolding substitute_cells_mark substitute_cells_in absent zero64
returns-then-k c = rw c.if-k.true (record { result_value = rw c.nothing.ensures mark-clean; row_after = refl })

pub returns : goal.returns
unfolding substitute_cells_mark substitute_cells_in absent zero64
returns c = rw c.if-k.false (record { result_value = c.insert_cells.ensures.result_value; row_after = c.insert_cells.ensures.row_after })
