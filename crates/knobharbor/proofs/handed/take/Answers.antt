use Rattle.cable_lines.specs.State.{held_by}
use Rattle.cable_lines.specs.Cable.{takes}
use Rattle.knobharbor.specs.handed.Handed.{takes-fit, hands-over}
use Rattle.knobharbor.proofs.handed.take.Goals as goal

pub returns : goal.returns
returns c = rw c.is_some.ensures (hands-over c.take-t.result (takes (held_by c.args.cable.now) c.args.piece.now) (takes-fit (held_by c.args.cable.now) c.args.piece.now) c.take-t.ensures c.hand_over.ensures.words_after c.hand_over.ensures.reals_after c.hand_over.ensures.variables_after c.hand_over.ensures.coefficients_after)
