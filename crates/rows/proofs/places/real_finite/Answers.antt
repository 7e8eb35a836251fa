use Rattle.std.proofs.Common.{Bool, ◌&&◌, refl, ap, arith}
use Rattle.laws.specs.Lists.{all_on, all-next, all-last}
use Rattle.rows.specs.places.Shares.{finite_in}
use Rattle.rows.proofs.places.real_finite.Goals as goal

pub loop-i-init : goal.loop-i-init
unfolding all_on finite_in
loop-i-init c = (refl)

pub loop-i-preserved : goal.loop-i-preserved
loop-i-preserved c = (all-next _ _ _ _ (omega arith) (ap (λ (b : Bool). c.loop-i.ok && b) c.is_finite-ok.ensures) c.loop-i.invariant)

pub returns : goal.returns
returns c = all-last _ _ _ _ (omega arith) c.loop-i.invariant
