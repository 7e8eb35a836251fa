use Rattle.steps.specs.Number.{constant_bound}
use Rattle.steps.specs.Add.{whole_inputs}
use Rattle.addition.proofs.inputs.whole_inputs.Goals as goal

pub returns : goal.returns
unfolding whole_inputs constant_bound
returns c = cc
