use Rattle.std.proofs.Common.{refl, ap, Bool, ◌&&◌}
use native.Mathlib.Omega.{arith}
use Rattle.laws.specs.Lists.{all_on, all-next, all-last}
use Rattle.sparse_test.proofs.stretch.each.Goals as goal

pub loop-i-init : goal.loop-i-init
unfolding all_on
loop-i-init g c = λ p f. refl

pub loop-i-preserved : goal.loop-i-preserved
loop-i-preserved g c = λ p f. all-next _ _ _ _ (omega arith) (ap (λ (b : Bool). c.loop-i.ok && b) (f c.loop-i.i c.test-ok.result (omega arith) (omega arith) c.test-ok.ensures)) (c.loop-i.invariant p f)

pub returns : goal.returns
returns g c = λ p f. all-last _ _ _ _ (omega arith) (c.loop-i.invariant p f)
