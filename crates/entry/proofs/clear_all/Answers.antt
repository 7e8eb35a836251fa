use Rattle.std.proofs.Common.{[], refl, arith}
use Rattle.laws.specs.Loops.{map_next, map_last}
use Rattle.entry.specs.Entry.{each, zeroes}
use Rattle.entry.proofs.clear_all.Goals as goal

pub loop-room-init : goal.loop-room-init
unfolding each
loop-room-init g c = refl

pub loop-room-preserved : goal.loop-room-preserved
loop-room-preserved g c = map_next (zeroes g.row.N c.args.zero) _ _ _ [] (omega arith) c.blank.ensures c.loop-room.invariant

pub returns : goal.returns
returns g c = map_last _ _ _ _ (omega arith) c.loop-room.invariant
