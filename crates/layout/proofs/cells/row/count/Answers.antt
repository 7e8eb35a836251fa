use mathlib.Core.Path.{refl}
use native.Mathlib.Omega.{arith}
use Rattle.laws.specs.Loops.{run-next, run-last}
use Rattle.steps.specs.Number.{zero64}
use Rattle.layout.specs.cells.Cells.{count_turn, counted}
use Rattle.layout.proofs.cells.row.count.Goals as goal
use Rattle.layout.proofs.cells.row.count.Goals.{then-row-p, else-row-p}

pub loop-p-init : goal.loop-p-init
unfolding counted
loop-p-init c = (refl, omega arith)

pub loop-p-preserved : goal.loop-p-preserved
unfolding count_turn zero64
loop-p-preserved c =
    elim c.if-row-p.branch [
      | then-row-p w ↦ rw w.c-is (run-next _ _ _ _ (omega arith) (rw w.if-row-p.true refl) c.loop-p.invariant.0, omega arith)
      | else-row-p w ↦ rw w.c-is (run-next _ _ _ _ (omega arith) (rw w.if-row-p.false refl) c.loop-p.invariant.0, omega arith)
    ]

pub returns : goal.returns
returns c = record { value = run-last _ _ _ _ (omega arith) c.loop-p.invariant.0; upper_bound = omega arith }
