use Prim.Native.Nat.{◌+◌}
use mathlib.Core.Path.{◌≡◌}
use mathlib.Core.Bool.{true, not, ◌&&◌}
use lib.Dec.{eqb}
use lib.Ieee.{nan, lt}
use lib.ListN.{get_or}
use Rattle.steps.specs.Strength.{required}
use Rattle.laws.specs.Loops.{run}
use Rattle.laws.specs.Lists.{all_on}
use Rattle.rows.specs.places.Shares.{shares}
use Rattle.sparse.specs.Places.{edit_markers_at, edit_others_at, edit_strengths_at}
use Rattle.sparse_test.specs.Tested.{claim, claim_other, claim_edits, edit_fits}
use Rattle.sparse_test.proofs.owners.claim_edits.Given as goal

abbrev pub invariant-loop-i : goal.invariant-loop-i
invariant-loop-i l = (run (λ j z. claim_other (get_or l.bytes (edit_others_at + j) 0) (claim (get_or l.bytes (edit_markers_at + j) 0) 3 z)) l.i l.e (shares l.table l.ok) ≡ claim_edits l.bytes l.e (shares l.initial.table true)) × (all_on (λ j. lt (get_or l.reals (edit_strengths_at + j) nan) required && not (eqb (get_or l.bytes (edit_others_at + j) 0) 0)) l.i l.e l.fits ≡ edit_fits l.bytes l.reals l.e)
