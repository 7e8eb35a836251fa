use Prim.Native.Nat.{ℕ, ◌+◌}
use mathlib.Core.Path.{ap}
use native.Mathlib.Omega.{arith}
use Rattle.laws.specs.Lists.{sum-start, sum-next, sum-last}
use Rattle.stored.proofs.moving.terms_in.Goals as goal

pub loop-j-init : goal.loop-j-init
loop-j-init c = (sum-start _ _ _, omega arith)

pub loop-j-preserved : goal.loop-j-preserved
loop-j-preserved c = (sum-next _ _ _ _ (omega arith) (ap (λ (x : ℕ). c.loop-j.s + x) c.from-s.ensures) c.loop-j.invariant.0, omega arith)

pub returns : goal.returns
returns c = sum-last _ _ _ _ (omega arith) c.loop-j.invariant.0
