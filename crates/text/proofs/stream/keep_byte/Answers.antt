use Rattle.std.proofs.Common.{rules, length, ◌≡◌}
use Rattle.text.specs.Stream.{held_more, held-over, held-none}
use Rattle.text.proofs.stream.keep_byte.Goals as goal

pub returns-in_default : goal.returns-in_default
returns-in_default c = rw c.in_default.is (held-none c.args.line.now c.args.b)

pub returns-then-n-lt4096 : goal.returns-then-n-lt4096
returns-then-n-lt4096 c =
    let q : length c.args.line.now ≡ 4096 = search rules in
    rw c.in-Some.is (held_more c.args.line.now c.in-Some.n c.args.b q c.if-n-lt4096.true)

pub returns : goal.returns
returns c =
    let q : length c.args.line.now ≡ 4096 = search rules in
    rw c.in-Some.is (held-over c.args.line.now c.in-Some.n c.args.b q c.if-n-lt4096.false)
