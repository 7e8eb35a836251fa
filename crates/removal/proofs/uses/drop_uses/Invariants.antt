use Rattle.sparse.specs.Tables.{held, Same}
use Rattle.removal.specs.Uses.{UsesFell}
use Rattle.removal.proofs.uses.drop_uses.Given as goal

abbrev pub invariant-loop-j : goal.invariant-loop-j
invariant-loop-j l = UsesFell l.numbers l.count l.j (held l.initial.room) (held l.room) × Same l.initial.room l.room
