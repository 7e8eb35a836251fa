use mathlib.Core.Path.{refl}
use native.Mathlib.Omega.{arith}
use Rattle.laws.specs.Loops.{run-next, run-last}
use Rattle.waist.specs.PurgingCells.{purged_cells}
use Rattle.waist.proofs.columns.drop_place.Goals as goal

pub loop-j-init : goal.loop-j-init
unfolding purged_cells
loop-j-init c = (refl, omega arith)

pub loop-j-preserved : goal.loop-j-preserved
loop-j-preserved c = (run-next _ _ _ _ (omega arith) c.keep_cell-at.ensures.result_after c.loop-j.invariant.0, omega arith)

pub returns : goal.returns
returns c = run-last _ _ _ _ (omega arith) c.loop-j.invariant.0
