use Rattle.std.proofs.Common.{false, ap, ◌∙◌}
use Rattle.steps.specs.Tests.{has_edit}
use Rattle.sparse_test.specs.Asked.{asked}
use Rattle.knobharbor.proofs.asked.knobharbor_has_edit.Goals as goal

pub returns : goal.returns
returns c = c.has_edit.ensures ∙ ap (asked (has_edit c.args.variable) false) c.to_read.ensures
