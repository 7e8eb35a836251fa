use Rattle.std.proofs.Common.{false, ap, ◌∙◌}
use Rattle.steps.specs.Tests.{has_constraint}
use Rattle.sparse_test.specs.Asked.{asked}
use Rattle.knobharbor.proofs.asked.knobharbor_has_constraint.Goals as goal

pub returns : goal.returns
returns c = c.has_constraint.ensures ∙ ap (asked (has_constraint c.args.number) false) c.to_read.ensures
