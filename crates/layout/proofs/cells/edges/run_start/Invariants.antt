use Prim.Native.Nat.{◌≤◌}
use Rattle.layout.specs.cells.Edges.{From}
use Rattle.layout.proofs.cells.edges.run_start.Given as goal

abbrev pub invariant-loop-r : goal.invariant-loop-r
invariant-loop-r l = From l.keys l.low l.c l.r × (l.a ≤ l.r)
