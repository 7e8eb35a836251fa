use Prim.Native.Nat.{ℕ, ◌+◌}
use mathlib.Core.Path.{ap}
use native.Mathlib.Omega.{arith}
use Rattle.laws.specs.Lists.{sum-start, sum-next, sum-last}
use Rattle.refusals.specs.Refusals.{constraints_in}
use Rattle.refusals.specs.Goes.{terms-start, terms-next, terms-within}
use Rattle.refusals.proofs.gone.term_uses.Goals as goal

pub loop-c-init : goal.loop-c-init
loop-c-init c = (sum-start _ 0 _, terms-start c.args.bytes.now, omega arith, omega arith, c.requires.constraints, c.requires.terms, omega arith)

pub taken_at-s-requires : goal.taken_at-s-requires
taken_at-s-requires c =
    let k = terms-within c.args.bytes.now c.loop-c.c (constraints_in c.args.words.now) (omega arith) c.loop-c.invariant.1 c.wide-n.ensures.value in
    record { c_lt_most_constraints = omega arith; n_bound = omega (arith, k); from_value = c.loop-c.invariant.1; n_value = c.wide-n.ensures.value }

pub loop-c-preserved : goal.loop-c-preserved
loop-c-preserved c =
    let k = terms-within c.args.bytes.now c.loop-c.c (constraints_in c.args.words.now) (omega arith) c.loop-c.invariant.1 c.wide-n.ensures.value in (
      sum-next _ _ _ c.loop-c.s (omega arith) (ap (λ (k : ℕ). c.loop-c.s + k) c.taken_at-s.ensures.value) c.loop-c.invariant.0,
      terms-next c.args.bytes.now c.loop-c.c c.loop-c.invariant.1 c.wide-n.ensures.value,
      omega (arith, c.taken_at-s.ensures.upper_bound),
      omega arith,
      c.loop-c.invariant.4,
      c.loop-c.invariant.5,
      omega (arith, k),
    )

pub returns : goal.returns
returns c = record { value = sum-last _ _ _ _ (omega arith) c.loop-c.invariant.0; upper_bound = omega arith }
