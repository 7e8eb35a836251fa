use native.Mathlib.Omega.{arith}
use Rattle.waist.specs.substituting.Passed.{spots-low}
use Rattle.waist.proofs.substituting.onepass.first_line.Goals as goal

pub loop-i-init : goal.loop-i-init
loop-i-init c = λ q a b. absurd (omega (arith, a, b))

pub returns-then-spots-i : goal.returns-then-spots-i
returns-then-spots-i c = record { low = c.loop-i.auto.i; high = omega (arith, c.loop-i-test.true); none = c.loop-i.invariant; here = λ _. omega (arith, c.if-spots-i.true) }

pub loop-i-preserved : goal.loop-i-preserved
loop-i-preserved c = spots-low c.args.spots.now c.args.n c.loop-i.i c.loop-i.invariant (omega (arith, c.if-spots-i.false))

pub returns : goal.returns
returns c = record { low = omega arith; high = omega arith; none = λ q a b. c.loop-i.invariant q a (omega (arith, b, c.loop-i-test.false)); here = λ q. absurd (omega (arith, q)) }
