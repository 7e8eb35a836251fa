use Rattle.grammar.specs.plain.Decimal.{decimal}
use Rattle.writing.proofs.buffer.put_number.Goals as goal

pub returns : goal.returns
unfolding decimal
returns c = c.put_digits.ensures
