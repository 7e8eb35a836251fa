use mathlib.Core.Path.{refl}
use native.Mathlib.Omega.{arith}
use Rattle.laws.specs.Loops.{map_next, map_last}
use Rattle.layout.proofs.cells.shift.each_key.Goals as goal

pub loop-j-init : goal.loop-j-init
loop-j-init g c = (c.requires.callable, λ h e. refl)

pub loop-j-preserved : goal.loop-j-preserved
loop-j-preserved g c = (c.requires.callable, λ h e. map_next _ _ _ _ 0 (omega arith) (e _ _ c.f.ensures) (c.loop-j.invariant.1 h e))

pub returns : goal.returns
returns g c = λ h e. map_last _ _ _ _ (omega arith) (c.loop-j.invariant.1 h e)
