use mathlib.Core.Path.{refl}
use native.Mathlib.Omega.{arith}
use Rattle.stored.specs.Maps.{tags-none, tags-next, tags-last}
use Rattle.stored.proofs.places.tag_places.Goals as goal

pub loop-p-init : goal.loop-p-init
loop-p-init c = tags-none _ _ _ refl refl

pub loop-p-preserved : goal.loop-p-preserved
loop-p-preserved c = tags-next _ _ c.requires.names.ids c.requires.names_2.ids _ (omega arith) _ _ _ (omega arith) (omega (arith, c.requires.names.symbols)) (omega arith) c.loop-p.invariant c.seek-q.ensures c.tag_at.ensures

pub returns : goal.returns
returns c = tags-last _ _ _ _ _ (omega arith) c.loop-p.invariant
