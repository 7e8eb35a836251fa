use Prim.Native.Nat.{ℕ, ◌+◌}
use mathlib.Core.Path.{ap, ◌∙◌}
use native.Mathlib.Omega.{arith}
use Rattle.laws.specs.Lists.{sum-start, sum-next, sum-last}
use Rattle.refusals.specs.Refusals.{uses_at}
use Rattle.refusals.proofs.Bits.{from-bit, bit-low}
use Rattle.refusals.proofs.gone.uses_at.Goals as goal

pub loop-j-init : goal.loop-j-init
unfolding uses_at
loop-j-init c = (sum-start _ 0 _, omega arith)

pub loop-j-preserved : goal.loop-j-preserved
loop-j-preserved c = (
  sum-next _ _ _ c.loop-j.s (omega arith) (ap (λ (k : ℕ). c.loop-j.s + k) (c.from-s.ensures ∙ from-bit _)) c.loop-j.invariant.0,
  (let b = bit-low _ c.from-s.ensures in omega (arith, b)),
)

pub returns : goal.returns
returns c = record { value = sum-last _ _ _ _ (omega arith) c.loop-j.invariant.0; upper_bound = omega arith }
