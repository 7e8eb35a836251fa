use lib.Ieee.{neg, of_bits}
use Rattle.rows.specs.Marks.{joined-mark}
use Rattle.rows.specs.Table.{solve_for_symbols_in, solve_for_symbols_mark}
use Rattle.steps.specs.Number.{cell_bound, minus_one64}
use Rattle.rows.proofs.row.solve_for_symbols.Goals as goal

pub returns : goal.returns
unfolding solve_for_symbols_mark solve_for_symbols_in minus_one64 cell_bound of_bits neg
returns c = record { result_value = joined-mark _ _ c.joined.ensures c.insert_symbol-v.ensures.result_value (rw (← c.insert_symbol-v.ensures.row_after) c.solve_for-w.ensures.result_value); row_after = rw (← c.insert_symbol-v.ensures.row_after) c.solve_for-w.ensures.row_after }
