use Rattle.std.proofs.Common.{arith, sym}
use Rattle.reader.specs.Scan.{alone, longer, digit-here}
use Rattle.reader.proofs.scan.number_at.Goals as goal

pub loop-d-init : goal.loop-d-init
loop-d-init c =
    let d = digit-here c.args.s.now c.args.at c.in-Some.first (sym c.in-Some.ensures) in
    record { digits = alone d.within d.kind; later = omega arith; within = omega (arith, d.within); bound = omega (arith, d.small) }

pub returns-then-most-n : goal.returns-then-most-n
returns-then-most-n c =
    let d = digit-here c.args.s.now c.loop-d.i c.in-Some-digit_at.d (sym c.in-Some-digit_at.ensures) in
    record { worth = c.loop-d.n; last = c.in-Some-digit_at.d; digits = c.loop-d.invariant.digits; within = d.within; next = d.kind; over = c.if-most-n.true }

pub loop-d-preserved : goal.loop-d-preserved
loop-d-preserved c =
    let d = digit-here c.args.s.now c.loop-d.i c.in-Some-digit_at.d (sym c.in-Some-digit_at.ensures) in
    record { digits = longer c.loop-d.invariant.digits d.within d.kind (omega arith); later = omega arith; within = omega (arith, d.within); bound = omega arith }
