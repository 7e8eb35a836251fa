use Rattle.std.proofs.Common.{arith, sym}
use Rattle.reader.specs.second.Numbers.{alone, longer, capped-in, capped_small, capped-next, mark-here}
use Rattle.reader.proofs.second.endings.digits_at.Goals as goal

pub loop-d-init : goal.loop-d-init
loop-d-init c =
    let d = mark-here c.args.s.now c.args.at c.in-Some.first (sym c.in-Some.ensures) in
    (c.in-Some.first, alone d.within d.mark, sym (capped-in c.args.most c.in-Some.first (omega (arith, d.small))), omega (arith, d.within))

pub overflow_mul-n : goal.overflow_mul-n
overflow_mul-n c = omega (arith, c.loop-d.invariant.2, capped_small c.args.most c.loop-d.invariant.0)

pub overflow_add-n : goal.overflow_add-n
overflow_add-n c =
    let d = mark-here c.args.s.now c.loop-d.i c.in-Some-digit_at.d (sym c.in-Some-digit_at.ensures) in
    omega (arith, c.loop-d.invariant.2, capped_small c.args.most c.loop-d.invariant.0, d.small)

pub loop-d-preserved : goal.loop-d-preserved
loop-d-preserved c =
    let d = mark-here c.args.s.now c.loop-d.i c.in-Some-digit_at.d (sym c.in-Some-digit_at.ensures) in
    (_, longer c.loop-d.invariant.1 d.within d.mark, capped-next c.args.most c.loop-d.invariant.0 c.in-Some-digit_at.d c.loop-d.invariant.2 c.cap-n.ensures, omega (arith, d.within))
