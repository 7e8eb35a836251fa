use mathlib.Core.Path.{refl, ap, ◌∙◌}
use native.Mathlib.Omega.{arith}
use Rattle.laws.specs.Loops.{run-next, run-last}
use Rattle.rows.specs.choose.Choose.{found_of}
use Rattle.waist.specs.Ratios.{dual_entering_of, dual-turn}
use Rattle.waist.specs.KindsRead.{dummy-read}
use Rattle.waist.proofs.ratios.dual_along.Goals as goal

pub loop-p-init : goal.loop-p-init
loop-p-init c = refl

pub loop-p-preserved : goal.loop-p-preserved
loop-p-preserved c = run-next _ _ _ _ (omega arith) (dual-turn _ _ _ _ _ (rw (← dummy-read _ _ c.from.ensures) c.dual_better-b.ensures)) c.loop-p.invariant

pub returns : goal.returns
unfolding dual_entering_of
returns c = record { value = c.found_of.ensures.value ∙ ap (found_of _) (run-last _ _ _ _ (omega arith) c.loop-p.invariant); within = c.found_of.ensures.within }
