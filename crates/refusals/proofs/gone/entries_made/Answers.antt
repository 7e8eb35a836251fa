use Prim.Native.Nat.{ℕ, ◌+◌}
use mathlib.Core.Path.{ap, ◌∙◌}
use native.Mathlib.Omega.{arith}
use Rattle.laws.specs.Lists.{sum-start, sum-next, sum-last}
use Rattle.layout.specs.Layout.{bit_of}
use Rattle.refusals.specs.Refusals.{entries_in}
use Rattle.refusals.proofs.Bits.{from-bit, bit-low}
use Rattle.refusals.proofs.gone.entries_made.Goals as goal

pub loop-i-init : goal.loop-i-init
unfolding entries_in
loop-i-init c = (sum-start _ 0 _, omega arith)

pub makes_entry-requires : goal.makes_entry-requires
makes_entry-requires c = record { tabled = c.requires; i_lt_most_variables = omega (arith, c.requires.variables) }

pub loop-i-preserved : goal.loop-i-preserved
loop-i-preserved c = (
  sum-next _ _ _ c.loop-i.s (omega arith) (ap (λ (k : ℕ). c.loop-i.s + k) (c.from-s.ensures ∙ from-bit _ ∙ ap bit_of c.makes_entry.ensures)) c.loop-i.invariant.0,
  (let b = bit-low _ c.from-s.ensures in omega (arith, b)),
)

pub returns : goal.returns
returns c = record { value = sum-last _ _ _ _ (omega arith) c.loop-i.invariant.0; upper_bound = omega arith }
