use mathlib.Core.Path.{refl}
use native.Mathlib.Omega.{arith}
use Rattle.stored.specs.Maps.{variables-none, variables-next, variables-last}
use Rattle.stored.proofs.places.variable_places.Goals as goal

pub loop-i-init : goal.loop-i-init
loop-i-init c = variables-none _ _ _ _ _ refl

pub loop-i-preserved : goal.loop-i-preserved
loop-i-preserved c = variables-next _ _ _ _ c.requires.names c.requires.names_2 _ _ _ (omega arith) c.loop-i.invariant c.seek-q.ensures c.from-p.ensures (omega arith) c.variable_at.ensures

pub returns : goal.returns
returns c = variables-last _ _ _ _ c.requires.names c.requires.names_2 _ _ _ (omega arith) c.loop-i.invariant
