use Rattle.std.proofs.Common.{arith, ◌∙◌}
use Rattle.reader.specs.second.Replies.{too_long, read_whole, read-refused}
use Rattle.reader.proofs.second.read_second.Goals as goal

pub returns-then-s-gt4096 : goal.returns-then-s-gt4096
returns-then-s-gt4096 c = too_long c.args.s.now c.if-s-gt4096.true

pub returns-in-Ok : goal.returns-in-Ok
returns-in-Ok c = read_whole c.args.s.now c.second_line.new.numbers c.second_line.new.sums (omega (arith, c.if-s-gt4096.false)) c.in-Ok.x c.in-Ok.ensures.agrees c.finish-r.ensures c.ranged.ensures

pub returns-in-Err : goal.returns-in-Err
returns-in-Err c = read-refused c.args.s.now c.second_line.new.numbers c.second_line.new.sums (omega arith) c.in-Err.f c.in-Err.ensures.agrees c.from.ensures
