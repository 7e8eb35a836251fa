use Prim.Native.Nat.{ℕ, ◌+◌}
use mathlib.Core.Path.{ap}
use native.Mathlib.Omega.{arith}
use Rattle.laws.specs.Lists.{sum-start, sum-next}
use Rattle.sparse_test.specs.Stretch.{zero-sum}
use Rattle.sparse_test.specs.Open.{open_by}
use Rattle.sparse_test.proofs.tableau.open_in.Goals as goal

pub loop-j-init : goal.loop-j-init
loop-j-init c = (sum-start _ _ _, omega arith)

pub loop-j-preserved : goal.loop-j-preserved
loop-j-preserved c = (sum-next _ _ _ _ (omega arith) (ap (λ (x : ℕ). c.loop-j.sum + x) c.from-sum.ensures) c.loop-j.invariant.0, omega (arith, c.from-sum.ensures))

pub returns : goal.returns
unfolding open_by
returns c = zero-sum _ 0 _ _ _ (omega arith) c.loop-j.invariant.0
