use mathlib.Core.Path.{refl}
use native.Mathlib.Omega.{arith}
use Rattle.laws.specs.Loops.{run-next, run-last}
use Rattle.layout.specs.cells.Cells.{cells, packed}
use Rattle.layout.specs.cells.Pack.{pack-turn}
use Rattle.layout.proofs.cells.row.compress.Goals as goal

pub loop-p-init : goal.loop-p-init
unfolding packed
loop-p-init c = (refl, refl, omega arith)

pub loop-p-preserved : goal.loop-p-preserved
loop-p-preserved c = (run-next _ _ _ _ (omega arith) (pack-turn _ _ _ _ (cells _ _ _) c.loop-p.invariant.1 c.put_if-n.ensures.result_after) c.loop-p.invariant.0, c.loop-p.invariant.1, omega arith)

pub returns : goal.returns
returns c = record { result_after = run-last _ _ _ _ (omega arith) c.loop-p.invariant.0; upper_bound = omega arith }
