use mathlib.Core.Path.{◌≡◌}
use Rattle.layout.specs.cells.Cells.{next_in}
use Rattle.layout.proofs.cells.column.next_in_column.Given as goal

abbrev pub invariant-loop-r : goal.invariant-loop-r
invariant-loop-r l = next_in l.keys l.p l.r l.n ≡ next_in l.keys l.p l.j l.n
