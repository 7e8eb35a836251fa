use Prim.Native.Nat.{◌+◌}
use mathlib.Core.Path.{◌≡◌}
use mathlib.Core.Bool.{not, ◌&&◌}
use lib.Ieee.{nan}
use lib.ListN.{get_or}
use Rattle.laws.specs.Loops.{first}
use Rattle.steps.specs.Number.{below_zero}
use Rattle.std.specs.Prelude.{Some, None}
use Rattle.sparse.specs.Places.{kinds_at, row_places_at, constants_at}
use Rattle.waist.specs.substituting.Notes.{is_external_kind}
use Rattle.waist.specs.Choosing.{dual_leaving_of}
use Rattle.waist.proofs.choices.get_dual_leaving_row.Given as goal

abbrev pub invariant-loop-i : goal.invariant-loop-i
invariant-loop-i l = first (λ j. not (is_external_kind (get_or l.bytes (kinds_at + get_or l.bytes (row_places_at + j) 0) 0)) && below_zero (get_or l.reals (constants_at + j) nan)) Some None l.i (1 + l.n) ≡ dual_leaving_of l.words l.bytes l.reals
