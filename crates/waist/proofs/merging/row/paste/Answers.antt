use mathlib.Core.Path.{refl}
use native.Mathlib.Omega.{arith}
use Rattle.laws.specs.Loops.{run-next, run-last}
use Rattle.waist.specs.merging.Merge.{pasted}
use Rattle.waist.proofs.merging.row.paste.Goals as goal

pub loop-j-init : goal.loop-j-init
unfolding pasted
loop-j-init c = (refl, refl)

pub loop-j-preserved : goal.loop-j-preserved
loop-j-preserved c = (run-next _ _ _ _ (omega arith) refl c.loop-j.invariant.0, run-next _ _ _ _ (omega arith) refl c.loop-j.invariant.1)

pub returns : goal.returns
returns c = record { keys_after = run-last _ _ _ _ (omega arith) c.loop-j.invariant.0; vals_after = run-last _ _ _ _ (omega arith) c.loop-j.invariant.1 }
