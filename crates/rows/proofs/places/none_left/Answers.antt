use Rattle.std.proofs.Common.{refl, arith}
use Rattle.laws.specs.Lists.{all_on, all-next, all-last}
use Rattle.rows.specs.places.Shares.{none_left}
use Rattle.rows.proofs.places.none_left.Goals as goal

pub loop-i-init : goal.loop-i-init
unfolding all_on none_left
loop-i-init c = (refl)

pub loop-i-preserved : goal.loop-i-preserved
loop-i-preserved c = (all-next _ _ _ _ (omega arith) refl c.loop-i.invariant)

pub returns : goal.returns
returns c = all-last _ _ _ _ (omega arith) c.loop-i.invariant
