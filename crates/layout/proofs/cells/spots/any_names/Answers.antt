use native.Mathlib.Omega.{arith}
use Rattle.layout.specs.cells.Spots.{unnamed-none, unnamed-next, unnamed-all}
use Rattle.layout.proofs.cells.spots.any_names.Goals as goal

pub loop-j-init : goal.loop-j-init
loop-j-init c = λ _. unnamed-none _ _ _

pub loop-j-preserved : goal.loop-j-preserved
loop-j-preserved c = unnamed-next _ _ _ _ _ c.loop-j.invariant

pub returns : goal.returns
returns c = λ e. unnamed-all _ _ _ _ (omega arith) (omega arith) (c.loop-j.invariant e)
