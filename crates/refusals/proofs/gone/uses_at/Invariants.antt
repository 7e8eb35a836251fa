use Prim.Native.Nat.{◌+◌, ◌≤◌}
use mathlib.Core.Path.{◌≡◌}
use lib.Dec.{eqb}
use lib.ListN.{get_or}
use Rattle.laws.specs.Lists.{sum_on}
use Rattle.layout.specs.Layout.{bit_of}
use Rattle.sparse.specs.Places.{terms_at}
use Rattle.refusals.specs.Refusals.{uses_at}
use Rattle.refusals.proofs.gone.uses_at.Given as goal

abbrev pub invariant-loop-j : goal.invariant-loop-j
invariant-loop-j l = (sum_on (λ j. bit_of (eqb l.p (get_or l.bytes (terms_at + (l.from + j)) 0))) l.j l.n l.s ≡ uses_at l.bytes l.from l.n l.p) × (l.s ≤ l.j)
