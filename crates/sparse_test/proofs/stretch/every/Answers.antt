use Prim.Native.Nat.{ℕ, ◌+◌, ◌≤◌}
use Rattle.std.proofs.Common.{◌≡◌, refl, ap, ◌∙◌, Bool, true, false, not}
use native.Mathlib.Omega.{arith}
use mir.Val.{bool_byte}
use Rattle.laws.specs.Lists.{sum-start, sum-next}
use Rattle.sparse_test.specs.Stretch.{missed, none-missed}
use Rattle.sparse_test.proofs.stretch.every.Goals as goal

counted : (b : Bool) → bool_byte (not b) ≡ missed b
unfolding missed
counted true = refl
counted false = refl

one : (b : Bool) → bool_byte b ≤ 1
one true = omega arith
one false = omega arith

pub loop-i-init : goal.loop-i-init
loop-i-init g c = (λ p f. sum-start _ _ _, omega arith)

pub loop-i-preserved : goal.loop-i-preserved
loop-i-preserved g c =
    let m = one (not c.test.result) in
    (λ p f. sum-next _ _ _ _ (omega arith) (ap (λ (x : ℕ). c.loop-i.misses + x) (c.from-misses.ensures ∙ counted c.test.result ∙ ap missed (f c.loop-i.i c.test.result (omega arith) (omega arith) c.test.ensures))) (c.loop-i.invariant.0 p f), omega (arith, m, c.from-misses.ensures))

pub returns : goal.returns
returns g c = λ p f. none-missed p c.args.a c.loop-i.i c.args.e c.loop-i.misses (omega arith) (c.loop-i.invariant.0 p f)
