use Rattle.std.proofs.Common.{◌∙◌}
use Rattle.text.specs.DigitLaws.{same-pointwise}
use Rattle.text.proofs.digits.same.Goals as goal

pub returns : goal.returns
returns c = c.eq.ensures ∙ same-pointwise c.args.w.now c.args.name.now
