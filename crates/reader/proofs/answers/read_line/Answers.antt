use Rattle.std.proofs.Common.{arith, ◌∙◌}
use Rattle.reader.specs.AnswerLaws.{read_whole, read-refused, too_long}
use Rattle.reader.proofs.answers.read_line.Goals as goal

pub returns-then-s-gt4096 : goal.returns-then-s-gt4096
returns-then-s-gt4096 c = too_long c.args.s.now c.if-s-gt4096.true

pub returns-in-Ok : goal.returns-in-Ok
returns-in-Ok c = read_whole c.args.s.now c.whole_line.new.numbers c.whole_line.new.sums (omega arith) c.in-Ok.m c.in-Ok.p c.in-Ok.ensures.nothing_value c.finish.ensures

pub returns-in-Err : goal.returns-in-Err
returns-in-Err c = read-refused c.args.s.now c.whole_line.new.numbers c.whole_line.new.sums (omega arith) c.in-Err.f c.in-Err.ensures.nothing_value c.from.ensures
