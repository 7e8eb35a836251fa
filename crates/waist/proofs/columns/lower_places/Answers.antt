use mathlib.Core.Path.{refl}
use native.Mathlib.Omega.{arith}
use Rattle.laws.specs.Loops.{map_next, map_last}
use Rattle.waist.proofs.columns.lower_places.Goals as goal

pub loop-j-init : goal.loop-j-init
loop-j-init c = refl

pub loop-j-preserved : goal.loop-j-preserved
loop-j-preserved c = map_next _ _ _ _ 0 (omega arith) c.near_place.ensures c.loop-j.invariant

pub returns : goal.returns
returns c = map_last _ _ _ _ (omega arith) c.loop-j.invariant
