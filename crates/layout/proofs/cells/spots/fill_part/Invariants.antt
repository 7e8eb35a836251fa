use Rattle.layout.specs.cells.Spots.{SpotsTo}
use Rattle.layout.proofs.cells.spots.fill_part.Given as goal

abbrev pub invariant-loop-j : goal.invariant-loop-j
invariant-loop-j l = SpotsTo l.keys l.n l.p l.j l.spots
