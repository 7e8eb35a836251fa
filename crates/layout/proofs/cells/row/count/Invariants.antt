use Prim.Native.Nat.{◌+◌, ◌≤◌}
use mathlib.Core.Path.{◌≡◌}
use Rattle.laws.specs.Loops.{run}
use Rattle.layout.specs.cells.Cells.{count_turn, counted}
use Rattle.layout.proofs.cells.row.count.Given as goal

abbrev pub invariant-loop-p : goal.invariant-loop-p
invariant-loop-p l = (run (count_turn l.row) l.p (l.k + 1) l.c ≡ counted l.k l.row) × (l.c + 1 ≤ l.p)
