use Prim.Native.Nat.{◌+◌}
use mathlib.Core.Path.{◌≡◌}
use mathlib.Core.Bool.{true, ◌&&◌}
use lib.Dec.{leb}
use lib.Ieee.{nan}
use lib.ListN.{get_or}
use Rattle.laws.specs.Loops.{run}
use Rattle.laws.specs.Lists.{all_on}
use Rattle.rows.specs.places.Shares.{shares}
use Rattle.sparse.specs.Places.{constraint_markers_at, constraint_others_at, relations_at, constraint_strengths_at}
use Rattle.sparse_test.specs.Tested.{claim, claim_other, marker_code, claim_constraints, softly, constraint_fits}
use Rattle.sparse_test.proofs.owners.claim_constraints.Given as goal

abbrev pub invariant-loop-i : goal.invariant-loop-i
invariant-loop-i l = (run (λ j z. claim_other (get_or l.bytes (constraint_others_at + j) 0) (claim (get_or l.bytes (constraint_markers_at + j) 0) (marker_code (get_or l.bytes (relations_at + j) 0) (get_or l.bytes (constraint_others_at + j) 0)) z)) l.i l.c (shares l.table l.ok) ≡ claim_constraints l.bytes l.c (shares l.initial.table true)) × (all_on (λ j. softly (get_or l.reals (constraint_strengths_at + j) nan) (get_or l.bytes (constraint_others_at + j) 0) && leb (get_or l.bytes (relations_at + j) 0) 2) l.i l.c l.fits ≡ constraint_fits l.bytes l.reals l.c)
