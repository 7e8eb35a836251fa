use Rattle.cable_lines.specs.State.{held_by}
use Rattle.cable_lines.specs.Cable.{closes}
use Rattle.knobharbor.specs.handed.Handed.{closes-fit, hands-over}
use Rattle.knobharbor.proofs.handed.close.Goals as goal

pub returns : goal.returns
returns c = rw c.is_some.ensures (hands-over c.close-t.result (closes (held_by c.args.cable.now)) (closes-fit (held_by c.args.cable.now)) c.close-t.ensures c.hand_over.ensures.words_after c.hand_over.ensures.reals_after c.hand_over.ensures.variables_after c.hand_over.ensures.coefficients_after)
