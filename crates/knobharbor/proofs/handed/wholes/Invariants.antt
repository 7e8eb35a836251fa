use Rattle.std.proofs.Common.{◌≡◌, map}
use Rattle.laws.specs.Loops.{zip_in}
use Rattle.layout.specs.Layout.{term_room}
use Rattle.knobharbor.specs.handed.Handed.{whole_at}
use Rattle.knobharbor.proofs.handed.wholes.Given as goal

abbrev pub invariant-loop-i : goal.invariant-loop-i
invariant-loop-i l = zip_in (λ _ y. whole_at y) l.i term_room l.r l.x ≡ map whole_at l.x
