use Prim.Native.Nat.{ℕ, ◌+◌}
use mathlib.Core.Path.{ap, ◌∙◌}
use native.Mathlib.Omega.{arith}
use Rattle.laws.specs.Lists.{sum_in, sum-start, sum-next, sum-last}
use Rattle.refusals.specs.Refusals.{new_at, new_in}
use Rattle.std.proofs.Common.{rules}
use Rattle.refusals.proofs.new_variables.Goals as goal

pub loop-i-init : goal.loop-i-init
unfolding new_in
loop-i-init c = (
  sum-start _ 0 _ ∙ ap (λ (k : ℕ). sum_in (new_at c.args.words.now c.args.v c.args.p) 0 k) c.shown-e.ensures.value,
  omega arith,
)

pub new_at-s-requires : goal.new_at-s-requires
new_at-s-requires c = record { v_le_most_variables = search rules; i_lt_term_room = omega arith; ascends = search rules }

pub overflow_add-s : goal.overflow_add-s
overflow_add-s c = omega (arith, c.new_at-s.ensures.upper_bound)

pub loop-i-preserved : goal.loop-i-preserved
loop-i-preserved c = (
  sum-next _ _ _ c.loop-i.s (omega arith) (ap (λ (k : ℕ). c.loop-i.s + k) c.new_at-s.ensures.value) c.loop-i.invariant.0,
  omega (arith, c.new_at-s.ensures.upper_bound),
)

pub returns : goal.returns
returns c = record { value = sum-last _ _ _ _ (omega arith) c.loop-i.invariant.0; upper_bound = omega arith }
