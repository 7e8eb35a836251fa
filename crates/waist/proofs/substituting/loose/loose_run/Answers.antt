use mathlib.Core.Path.{refl}
use native.Mathlib.Omega.{arith}
use Rattle.laws.specs.Loops.{run-next, run-last}
use Rattle.steps.specs.Number.{zero64}
use Rattle.steps.specs.Symbol.{absent}
use Rattle.layout.specs.cells.Cells.{packed}
use Rattle.waist.specs.substituting.Loose.{loose-on, loose-off}
use Rattle.waist.proofs.substituting.loose.loose_run.Goals as goal

pub loop-p-init : goal.loop-p-init
unfolding packed
loop-p-init c = (refl, omega arith)

pub loop-p-preserved-then-x : goal.loop-p-preserved-then-x
unfolding absent zero64
loop-p-preserved-then-x c = (run-next _ _ _ _ (omega arith) (loose-off _ _ _ _ _ c.if-x.true) c.loop-p.invariant.0, omega arith)

pub loop-p-preserved : goal.loop-p-preserved
unfolding absent zero64
loop-p-preserved c = (run-next _ _ _ _ (omega arith) (loose-on _ _ _ _ _ c.if-x.false) c.loop-p.invariant.0, omega arith)

pub returns : goal.returns
returns c = record { run_after = run-last _ _ _ _ (omega arith) c.loop-p.invariant.0; upper_bound = omega arith }
