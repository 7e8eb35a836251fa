use native.Mathlib.Omega.{arith}
use Rattle.layout.specs.cells.Replace.{run-ordered}
use Rattle.layout.specs.cells.Load.{narrow-part, loaded-is}
use Rattle.layout.proofs.cells.row.load_row.Goals as goal

pub expand-requires : goal.expand-requires
expand-requires c = record { a_le_e = run-ordered _ _ _ _ _ c.find-a.ensures.value c.find-e.ensures.value; e_le_cell_room = omega arith; narrow = narrow-part _ _ _ _ _ c.requires.narrow c.find-e.ensures.upper_bound }

pub returns : goal.returns
returns c = loaded-is _ _ _ _ _ _ _ _ _ c.find-a.ensures.value c.find-e.ensures.value c.zero_cells.ensures c.expand.ensures
