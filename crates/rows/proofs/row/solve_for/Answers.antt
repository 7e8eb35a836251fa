use lib.Ieee.{neg, of_bits}
use Rattle.rows.specs.Marks.{joined-mark}
use Rattle.rows.specs.Table.{solve_factor, solve_row_in, solve_row_mark, solve_start}
use Rattle.steps.specs.Number.{constant_bound, minus_one64, zero64}
use Rattle.rows.proofs.row.solve_for.Goals as goal

pub returns : goal.returns
unfolding solve_row_mark solve_row_in solve_start solve_factor zero64 minus_one64 constant_bound of_bits neg
returns c = record { result_value = joined-mark _ _ c.joined-2.ensures c.factor_mark.ensures (joined-mark _ _ c.joined.ensures c.mark_write.ensures c.scale_cells-w.ensures.result_value); row_after = c.scale_cells-w.ensures.row_after }
