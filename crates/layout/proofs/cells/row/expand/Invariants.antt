use mathlib.Core.Path.{◌≡◌}
use Rattle.layout.specs.cells.Cells.{expanded}
use Rattle.layout.proofs.cells.row.expand.Given as goal

abbrev pub invariant-loop-j : goal.invariant-loop-j
invariant-loop-j l = expanded l.keys l.vals l.j l.e l.row ≡ expanded l.keys l.vals l.a l.e l.initial.row
