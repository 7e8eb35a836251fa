use Prim.Native.Nat.{◌≤◌}
use mathlib.Core.Path.{◌≡◌}
use Rattle.laws.specs.Loops.{delete}
use Rattle.waist.proofs.moves.open.Given as goal

abbrev pub invariant-loop-j : goal.invariant-loop-j
invariant-loop-j g l = (delete l.j l.xs ≡ delete l.e l.initial.xs) × (l.i ≤ l.j)
