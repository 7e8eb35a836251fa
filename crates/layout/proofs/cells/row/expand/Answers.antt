use mathlib.Core.Path.{refl}
use native.Mathlib.Omega.{arith}
use Rattle.laws.specs.Loops.{run-next, run-last}
use Rattle.layout.specs.cells.Cells.{Narrow, expanded, expand_turn}
use Rattle.layout.proofs.cells.row.expand.Goals as goal

pub loop-j-init : goal.loop-j-init
loop-j-init c = refl

pub bounds-row-p : goal.bounds-row-p
unfolding Narrow
bounds-row-p c = c.requires.narrow _ (omega arith) (omega arith)

pub loop-j-preserved : goal.loop-j-preserved
unfolding expanded expand_turn
loop-j-preserved c = run-next _ _ _ _ (omega arith) refl c.loop-j.invariant

pub returns : goal.returns
unfolding expanded
returns c = run-last _ _ _ _ (omega arith) c.loop-j.invariant
