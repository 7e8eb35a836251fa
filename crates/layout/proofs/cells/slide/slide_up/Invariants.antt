use Prim.Native.Nat.{◌+◌, ◌-◌, ◌≤◌}
use mathlib.Core.Path.{◌≡◌}
use lib.ListN.{length}
use Rattle.layout.specs.cells.Names.{cell_room}
use Rattle.layout.specs.cells.Cells.{moved}
use Rattle.layout.proofs.cells.slide.slide_up.Given as goal

abbrev pub invariant-loop-j : goal.invariant-loop-j
invariant-loop-j l = (moved l.a (l.a + l.d) (l.j - l.a) l.keys ≡ moved l.a (l.a + l.d) (l.n - l.a) l.initial.keys) × (moved l.a (l.a + l.d) (l.j - l.a) l.vals ≡ moved l.a (l.a + l.d) (l.n - l.a) l.initial.vals) × (length l.keys ≡ cell_room) × (length l.vals ≡ cell_room) × (l.a ≤ l.j) × (l.j ≤ l.n)
