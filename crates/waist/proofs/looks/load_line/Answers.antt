use native.Mathlib.Omega.{arith}
use Rattle.waist.specs.Looks.{line-loads}
use Rattle.waist.proofs.looks.load_line.Goals as goal

pub load_row-requires : goal.load_row-requires
load_row-requires c = record { n_le_cell_room = omega (arith, c.requires.loadable.room); k_lt_row_room = omega (arith, c.requires.loadable.few); i_lt_top_row = omega (arith, c.requires.i_le_most_rows); ascending = c.requires.loadable.up; narrow = c.requires.loadable.narrow }

pub returns : goal.returns
returns c = line-loads _ _ _ c.requires.loadable c.told-row c.load_row.ensures
