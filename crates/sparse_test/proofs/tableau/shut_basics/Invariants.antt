use Prim.Native.Nat.{◌+◌}
use mathlib.Core.Path.{◌≡◌}
use lib.Ieee.{nan}
use lib.ListN.{get_or}
use Rattle.steps.specs.Symbol.{absent}
use Rattle.laws.specs.Lists.{all_on}
use Rattle.sparse.specs.Places.{row_places_at, objective_at}
use Rattle.sparse_test.specs.Tested.{costs_fit}
use Rattle.sparse_test.specs.Open.{Opened}
use Rattle.sparse_test.proofs.tableau.shut_basics.Given as goal

abbrev pub invariant-loop-i : goal.invariant-loop-i
invariant-loop-i l = Opened l.table l.bytes l.k l.i × (all_on (λ j. absent (get_or l.reals (objective_at + get_or l.bytes (row_places_at + 1 + j) 0) nan)) l.i l.r l.ok ≡ costs_fit l.reals l.bytes l.r)
