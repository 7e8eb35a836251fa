use Prim.Native.Nat.{◌*◌}
use Rattle.layout.specs.cells.Spots.{block_size, SpotsTo}
use Rattle.layout.proofs.cells.spots.fill_spots.Given as goal

abbrev pub invariant-loop-b : goal.invariant-loop-b
invariant-loop-b l = SpotsTo l.keys l.n l.p (l.b * block_size) l.spots
