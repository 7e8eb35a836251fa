use Prim.Native.Nat.{◌+◌}
use mathlib.Core.Path.{◌≡◌}
use mathlib.Core.Bool.{true}
use lib.Dec.{leb}
use lib.ListN.{get_or}
use Rattle.laws.specs.Loops.{run}
use Rattle.laws.specs.Lists.{all_on}
use Rattle.rows.specs.places.Shares.{shares}
use Rattle.sparse.specs.Places.{variable_places_at, changed_at}
use Rattle.sparse_test.specs.Stretch.{most_in}
use Rattle.sparse_test.specs.Tested.{claim, claim_variables}
use Rattle.sparse_test.proofs.owners.claim_variables.Given as goal

abbrev pub invariant-loop-i : goal.invariant-loop-i
invariant-loop-i l = (run (λ j z. claim (get_or l.bytes (variable_places_at + j) 0) 1 z) l.i l.v (shares l.table l.ok) ≡ claim_variables l.bytes l.v (shares l.initial.table true)) × (all_on (λ j. leb (get_or l.bytes (changed_at + j) 0) 1) l.i l.v l.fits ≡ most_in l.bytes changed_at l.v 1)
