use Prim.Native.Nat.{◌+◌, ◌-◌, ◌*◌, ◌≤◌}
use mathlib.Core.Path.{◌≡◌}
use Rattle.rows.specs.Marks.{mark_of}
use Rattle.layout.specs.cells.Names.{row_span}
use Rattle.layout.specs.cells.Cells.{cells}
use Rattle.waist.specs.merging.Merging.{Merging}
use Rattle.waist.proofs.merging.merge.merge_run.Given as goal

abbrev pub invariant-loop-s : goal.invariant-loop-s
invariant-loop-s l = Merging l.cutoff l.keys l.vals l.a l.e l.i l.at l.other.keys l.other.vals l.m l.k l.bound l.s l.j (cells l.fresh.keys l.fresh.vals l.n) (mark_of l.w) (cells l.initial.fresh.keys l.initial.fresh.vals 0) × (l.base ≡ l.i * row_span) × (l.s ≤ l.e) × (l.j ≤ l.m)

abbrev pub decreases-loop-s : goal.decreases-loop-s
decreases-loop-s l = l.e + l.m - (l.s + l.j)
