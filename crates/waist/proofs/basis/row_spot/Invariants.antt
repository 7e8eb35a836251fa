use Prim.Native.Nat.{◌+◌}
use mathlib.Core.Path.{◌≡◌}
use lib.Dec.{ltb}
use lib.ListN.{get_or}
use Rattle.laws.specs.Loops.{first}
use Rattle.sparse.specs.Places.{row_places_at}
use Rattle.waist.specs.Spots.{spot_of}
use Rattle.waist.proofs.basis.row_spot.Given as goal

abbrev pub invariant-loop-i : goal.invariant-loop-i
invariant-loop-i l = first (λ j. ltb l.p (get_or l.bytes (row_places_at + j) 0)) (λ j. j) (1 + l.r) l.i (1 + l.r) ≡ spot_of l.p l.r l.bytes
