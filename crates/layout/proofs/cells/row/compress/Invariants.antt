use Prim.Native.Nat.{◌+◌, ◌*◌, ◌≤◌}
use mathlib.Core.Path.{◌≡◌}
use Rattle.laws.specs.Loops.{run}
use Rattle.layout.specs.cells.Names.{row_span}
use Rattle.layout.specs.cells.Cells.{cells, pack_turn, packed}
use Rattle.layout.proofs.cells.row.compress.Given as goal

abbrev pub invariant-loop-p : goal.invariant-loop-p
invariant-loop-p l = (run (pack_turn l.i l.row) l.p (l.k + 1) (cells l.keys l.vals l.n) ≡ packed l.k l.i l.row (cells l.initial.keys l.initial.vals l.at)) × (l.base ≡ l.i * row_span) × (l.n + 1 ≤ l.at + l.p)
