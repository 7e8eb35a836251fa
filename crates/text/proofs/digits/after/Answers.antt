use Rattle.text.specs.DigitLaws.{stripped}
use Rattle.text.proofs.digits.after.Goals as goal

pub returns : goal.returns
returns c = stripped c.args.mark.now c.args.w.now c.strip_prefix.result c.strip_prefix.ensures.cases
