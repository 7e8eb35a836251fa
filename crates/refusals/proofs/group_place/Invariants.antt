use Prim.Native.Nat.{◌+◌}
use mathlib.Core.Path.{◌≡◌}
use lib.Dec.{eqb}
use lib.ListN.{get_or}
use Rattle.laws.specs.Loops.{first}
use Rattle.sparse.specs.Places.{constraint_groups_at}
use Rattle.sparse.specs.Lookup.{place_from}
use Rattle.refusals.proofs.group_place.Given as goal

abbrev pub invariant-loop-i : goal.invariant-loop-i
invariant-loop-i l = first (λ j. eqb l.g (get_or l.words (constraint_groups_at + j) 0)) (λ j. j) l.c l.i l.c ≡ place_from l.words constraint_groups_at l.c l.g
