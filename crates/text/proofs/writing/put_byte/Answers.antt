use Rattle.std.proofs.Common.{rules}
use Rattle.text.specs.Answers.{wrote-byte}
use Rattle.text.proofs.writing.put_byte.Goals as goal

pub returns : goal.returns
returns c = wrote-byte c.args.out.now c.args.at c.args.b (search rules)
