use mathlib.Core.Path.{◌≡◌}
use Rattle.layout.specs.cells.Cells.{last_before}
use Rattle.layout.proofs.cells.column.last_in_column.Given as goal

abbrev pub invariant-loop-r : goal.invariant-loop-r
invariant-loop-r l = last_before l.keys l.p l.r ≡ last_before l.keys l.p l.j
