use Rattle.knobharbor.specs.handed.Handed.{reads_over}
use Rattle.knobharbor.proofs.handed.read.Goals as goal

pub returns : goal.returns
returns c = reads_over c.read_second-x.result c.args.line.now c.read_second-x.ensures c.hand_over.ensures.words_after c.hand_over.ensures.reals_after c.hand_over.ensures.variables_after c.hand_over.ensures.coefficients_after
