-- A number has at most 20 digits.
use Rattle.std.proofs.Common.{arith}
use Rattle.text.specs.Answers.{decimal-short}
use Rattle.writer.proofs.answers.put_refused.Goals as goal

pub returns : goal.returns
returns c = omega (arith, c.put_number.ensures.0, decimal-short 20 c.args.number, c.put_byte-c.ensures.0, c.put_byte-b.ensures.0, c.put_byte-a.ensures.0)
