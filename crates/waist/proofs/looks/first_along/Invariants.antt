use Prim.Native.Nat.{◌+◌}
use mathlib.Core.Path.{◌≡◌}
use mathlib.Core.Bool.{◌&&◌}
use lib.Ieee.{nan}
use lib.ListN.{get_or}
use Rattle.laws.specs.Loops.{first}
use Rattle.std.specs.Prelude.{Some, None}
use Rattle.rows.specs.choose.Choose.{wants}
use Rattle.sparse.specs.Places.{kinds_at}
use Rattle.waist.specs.Looks.{of_kind, seen, look_of}
use Rattle.waist.proofs.looks.first_along.Given as goal

abbrev pub invariant-loop-p : goal.invariant-loop-p
invariant-loop-p l = first (λ j. wants l.want (of_kind (get_or l.bytes (kinds_at + j) 0)) && seen l.below (get_or l.row j nan)) Some None l.p (1 + l.n) ≡ look_of l.want l.below l.words l.bytes l.row
