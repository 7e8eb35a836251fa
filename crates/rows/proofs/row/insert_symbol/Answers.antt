use Rattle.rows.specs.Table.{insert_symbol_at, insert_symbol_mark}
use Rattle.rows.proofs.row.insert_symbol.Goals as goal

pub returns : goal.returns
unfolding insert_symbol_at insert_symbol_mark
returns c = record { result_value = rw (← c.insert_cell-c.ensures) c.cell_mark.ensures; row_after = rw (← c.insert_cell-c.ensures, c.cell_value.ensures) }
