use mathlib.Core.Path.{◌≡◌, refl}
use native.Mathlib.Omega.{arith}
use Rattle.steps.specs.Number.{zero64}
use Rattle.fetches.specs.shown.Filled.{filled_none, filled_next}
use Rattle.fetches.proofs.shown.coefficients_of.Goals as goal

pub loop-j-init : goal.loop-j-init
unfolding zero64
loop-j-init c = filled_none zero64 _

pub loop-j-preserved : goal.loop-j-preserved
loop-j-preserved c = filled_next zero64 _ c.loop-j.j (omega arith) c.loop-j.invariant refl

pub returns : goal.returns
returns c =
    let e : c.loop-j.j ≡ c.args.n = omega arith in
    rw e at c.loop-j.invariant
