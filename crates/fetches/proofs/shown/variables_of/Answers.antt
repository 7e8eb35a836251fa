use Prim.Native.Nat.{ℕ}
use mathlib.Core.Path.{◌≡◌}
use native.Mathlib.Omega.{arith}
use Rattle.fetches.specs.shown.Filled.{filled_none, filled_next}
use Rattle.fetches.proofs.shown.variables_of.Goals as goal

pub loop-j-init : goal.loop-j-init
loop-j-init c = filled_none {A = ℕ} 0 _

pub loop-j-preserved : goal.loop-j-preserved
loop-j-preserved c = filled_next {A = ℕ} 0 _ c.loop-j.j (omega arith) c.loop-j.invariant c.number_of.ensures

pub returns : goal.returns
returns c =
    let e : c.loop-j.j ≡ c.args.n = omega arith in
    rw e at c.loop-j.invariant
