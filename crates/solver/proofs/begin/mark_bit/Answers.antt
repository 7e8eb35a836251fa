use mathlib.Core.Path.{ap, ◌∙◌}
use Rattle.layout.specs.Layout.{bit_of}
use Rattle.solver.proofs.begin.mark_bit.Goals as goal

pub returns : goal.returns
returns c = c.bit.ensures ∙ ap bit_of c.says_yes-yes.ensures
