use Prim.Native.Nat.{◌+◌, ◌≤◌}
use mathlib.Core.Path.{◌≡◌}
use Rattle.laws.specs.Loops.{run}
use Rattle.layout.specs.cells.Cells.{cells, pack_turn, packed}
use Rattle.waist.proofs.substituting.loose.loose_run.Given as goal

abbrev pub invariant-loop-p : goal.invariant-loop-p
invariant-loop-p l = (run (pack_turn 0 l.row) l.p (l.k + 1) (cells l.run.keys l.run.vals l.n) ≡ packed l.k 0 l.row (cells l.initial.run.keys l.initial.run.vals 0)) × (l.n + 1 ≤ l.p)
