use mathlib.Core.Path.{◌≡◌}
use Rattle.laws.specs.Loops.{map_in}
use Rattle.waist.specs.Lowering.{near_place}
use Rattle.waist.proofs.columns.lower_places.Given as goal

abbrev pub invariant-loop-j : goal.invariant-loop-j
invariant-loop-j l = map_in (near_place l.p) l.j l.e l.bytes ≡ map_in (near_place l.p) l.a l.e l.initial.bytes
