use Prim.Native.Nat.{◌+◌}
use mathlib.Core.Path.{◌≡◌}
use mathlib.Core.Bool.{not, ◌&&◌}
use lib.Ieee.{nan}
use lib.ListN.{get_or}
use Rattle.laws.specs.Loops.{first}
use Rattle.steps.specs.Number.{below_zero}
use Rattle.std.specs.Prelude.{Some, None}
use Rattle.sparse.specs.Places.{kinds_at, objective_at}
use Rattle.waist.specs.Choosing.{is_dummy_kind, entering_of}
use Rattle.waist.proofs.choices.get_entering_symbol.Given as goal

abbrev pub invariant-loop-p : goal.invariant-loop-p
invariant-loop-p l = first (λ j. not (is_dummy_kind (get_or l.bytes (kinds_at + j) 0)) && below_zero (get_or l.reals (objective_at + j) nan)) Some None l.p (1 + l.n) ≡ entering_of l.words l.bytes l.reals
