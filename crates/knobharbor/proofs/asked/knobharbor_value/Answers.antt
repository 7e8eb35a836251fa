use Rattle.std.proofs.Common.{ap, ◌∙◌}
use Rattle.steps.specs.Changes.{value}
use Rattle.steps.specs.Number.{zero64}
use Rattle.sparse_test.specs.Asked.{asked}
use Rattle.knobharbor.proofs.asked.knobharbor_value.Goals as goal

pub returns : goal.returns
returns c = c.get_value.ensures ∙ ap (asked (value c.args.variable) zero64) c.to_read.ensures
