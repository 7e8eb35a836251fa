use native.Mathlib.Omega.{arith}
use Rattle.layout.specs.cells.Cells.{cells}
use Rattle.waist.specs.PurgingCells.{purge-off, purge-on}
use Rattle.waist.proofs.columns.keep_cell.Goals as goal

pub returns-then-p-key : goal.returns-then-p-key
returns-then-p-key c = record { result_after = purge-off _ _ (cells _ _ _) c.if-p-key.true; upper_bound = omega arith }

pub returns : goal.returns
returns c = record { result_after = purge-on _ _ (cells _ _ _) c.if-p-key.false c.nearer_key.ensures; upper_bound = omega arith }
