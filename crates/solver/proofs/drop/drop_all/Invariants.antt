use Rattle.sparse.specs.Tables.{held, Same}
use lib.ListN.{get_or}
use Rattle.sparse.specs.Places.{constraint_count_at}
use Rattle.solver.specs.Dropped.{Halfway}
use Rattle.solver.proofs.drop.drop_all.Given as goal

abbrev pub invariant-loop-room : goal.invariant-loop-room
invariant-loop-room l = Halfway l.g l.budget (held l.initial.room) (held l.room) l.pivots × Same l.initial.room l.room

-- a constraint less at each turn
abbrev pub decreases-loop-room : goal.decreases-loop-room
decreases-loop-room l = get_or l.room.words.now constraint_count_at 0
