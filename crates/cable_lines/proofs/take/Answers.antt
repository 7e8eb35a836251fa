use Rattle.cable_lines.specs.Cable.{takes}
use Rattle.cable_lines.specs.State.{held_by}
use Rattle.cable_lines.specs.Given.{begun-given}
use Rattle.cable_lines.proofs.take.Goals as goal

pub returns : goal.returns
returns c = begun-given (takes (held_by c.args.s.now) c.args.piece.now) c.step-t.ensures c.tidy.ensures
