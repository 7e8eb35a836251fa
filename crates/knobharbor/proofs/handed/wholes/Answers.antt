use Rattle.std.proofs.Common.{refl, arith, rules}
use Rattle.laws.specs.Loops.{zip-next, zip-last}
use Rattle.steps.specs.Number.{zero64}
use Rattle.layout.specs.Layout.{term_room}
use Rattle.knobharbor.specs.handed.Handed.{whole_at, wholes-start}
use Rattle.knobharbor.proofs.handed.wholes.Goals as goal

pub loop-i-init : goal.loop-i-init
loop-i-init c = wholes-start term_room _ _ refl (search rules)

pub loop-i-preserved : goal.loop-i-preserved
unfolding whole_at
loop-i-preserved c = zip-next (λ _ y. whole_at y) _ term_room _ _ zero64 0 (omega arith) (omega arith) c.whole.ensures c.loop-i.invariant

pub returns : goal.returns
returns c = zip-last (λ _ y. whole_at y) _ term_room _ _ (omega arith) c.loop-i.invariant
