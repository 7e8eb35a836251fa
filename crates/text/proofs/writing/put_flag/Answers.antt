use Rattle.std.proofs.Common.{ap}
use Rattle.text.specs.Answers.{wrote_as, flag_text}
use Rattle.text.proofs.writing.put_flag.Goals as goal

pub returns-then-b : goal.returns-then-b
returns-then-b c = wrote_as c.args.out.now c.put_byte.new.out c.args.at c.put_byte.result (ap flag_text c.if-b.true) c.put_byte.ensures

pub returns-else-b : goal.returns-else-b
returns-else-b c = wrote_as c.args.out.now c.put_byte-else-b.new.out c.args.at c.put_byte-else-b.result (ap flag_text c.if-b.false) c.put_byte-else-b.ensures
