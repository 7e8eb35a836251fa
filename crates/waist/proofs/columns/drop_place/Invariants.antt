use Prim.Native.Nat.{◌≤◌}
use mathlib.Core.Path.{◌≡◌}
use Rattle.laws.specs.Loops.{run}
use Rattle.layout.specs.cells.Cells.{cells}
use Rattle.waist.specs.PurgingCells.{purge_turn, purged_cells}
use Rattle.waist.proofs.columns.drop_place.Given as goal

abbrev pub invariant-loop-j : goal.invariant-loop-j
invariant-loop-j l = (run (purge_turn l.p) l.j l.n (cells l.keys l.values l.at) ≡ purged_cells l.n l.p l.initial.keys l.initial.values) × (l.at ≤ l.j)
