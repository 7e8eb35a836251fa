use Rattle.cable_lines.specs.Cable.{closes}
use Rattle.cable_lines.specs.State.{held_by}
use Rattle.cable_lines.specs.Given.{begun-given}
use Rattle.cable_lines.proofs.close.Goals as goal

pub returns : goal.returns
returns c = begun-given (closes (held_by c.args.s.now)) c.closing-t.ensures c.tidy.ensures
