use Rattle.writing.specs.Writes.{wrong_size}
use Rattle.writing.proofs.write_line.Goals as goal

pub returns : goal.returns
returns c = wrong_size c.args.relation c.args.group c.args.constant c.args.p c.args.out.now c.if-out-eq-ROOM.false
