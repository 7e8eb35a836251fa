use Rattle.std.proofs.Common.{◌≡◌, length}
use Rattle.laws.specs.Loops.{map_in}
use Rattle.entry.specs.Entry.{zeroes, each}
use Rattle.entry.proofs.clear_all.Given as goal

abbrev pub invariant-loop-room : goal.invariant-loop-room
invariant-loop-room g l = map_in (zeroes g.row.N l.zero) l.room-index (length l.initial.work) l.work ≡ each (zeroes g.row.N l.zero) l.initial.work
