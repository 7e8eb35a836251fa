use Prim.Native.Nat.{◌+◌}
use mathlib.Core.Path.{◌≡◌}
use mathlib.Core.Bool.{cond}
use lib.Dec.{eqb, leb}
use lib.ListN.{get_or}
use Rattle.laws.specs.Loops.{first}
use Rattle.std.specs.Prelude.{Some, None}
use Rattle.sparse.specs.Places.{gone_numbers_at}
use Rattle.variables.specs.Told.{gone_spot}
use Rattle.variables.proofs.gone.gone_spot.Given as goal

abbrev pub invariant-loop-j : goal.invariant-loop-j
invariant-loop-j l =
    first (λ j. leb l.n (get_or l.words (gone_numbers_at + j) 0)) (λ j. cond (eqb l.n (get_or l.words (gone_numbers_at + j) 0)) None (Some j)) (Some l.e) l.j l.e ≡ gone_spot l.n l.words
