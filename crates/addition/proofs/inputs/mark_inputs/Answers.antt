use Rattle.addition.specs.Inputs.{marks-are}
use Rattle.addition.proofs.inputs.mark_inputs.Goals as goal

pub returns : goal.returns
returns c = marks-are _ _ _ c.whole_inputs-whole.ensures c.joined.ensures
