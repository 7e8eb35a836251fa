use mathlib.Core.Path.{refl}
use native.Mathlib.Omega.{arith}
use Rattle.laws.specs.Loops.{run-next, run-last}
use Rattle.rows.specs.Marks.{mark-clean}
use Rattle.waist.specs.substituting.Objective.{aim-turn}
use Rattle.waist.proofs.substituting.objective.insert_cells.Goals as goal

pub loop-p-init : goal.loop-p-init
loop-p-init c = rw (c.nothing-w.ensures, mark-clean) refl

pub loop-p-preserved : goal.loop-p-preserved
loop-p-preserved c = run-next _ _ _ _ (omega arith) (aim-turn _ _ _ _ _ _ c.insert_at-w.ensures.result_value c.insert_at-w.ensures.reals_after) c.loop-p.invariant

pub returns : goal.returns
returns c = run-last _ _ _ _ (omega arith) c.loop-p.invariant
