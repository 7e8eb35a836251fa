use Prim.Native.Nat.{◌≤◌}
use mathlib.Core.Path.{◌≡◌}
use Rattle.laws.specs.Loops.{delete}
use Rattle.reader.proofs.sums.open.Given as goal

abbrev pub invariant-loop-j : goal.invariant-loop-j
invariant-loop-j g l = (delete l.j l.table ≡ delete l.e l.initial.table) × (l.i ≤ l.j)
