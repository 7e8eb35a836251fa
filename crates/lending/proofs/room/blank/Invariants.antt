use Rattle.std.proofs.Common.{◌≡◌, length}
use Rattle.laws.specs.Loops.{map_in}
use Rattle.lending.proofs.room.blank.Given as goal

abbrev pub invariant-loop-x : goal.invariant-loop-x
invariant-loop-x g l = map_in (λ _. l.zero) l.x-index (length l.initial.room) l.room ≡ map_in (λ _. l.zero) 0 (length l.initial.room) l.initial.room
