use Rattle.sparse.specs.Tables.{lent}
use Prim.Native.Nat.{◌+◌}
use mathlib.Core.Path.{◌≡◌}
use Rattle.std.specs.Prelude.{Some, None}
use Rattle.laws.specs.Loops.{first}
use Rattle.waist.specs.MarkerRow.{dummy_held, dummy_row_of}
use Rattle.waist.proofs.marker.first_dummy_row.Given as goal

abbrev pub invariant-loop-i : goal.invariant-loop-i
invariant-loop-i l = first (dummy_held l.p (lent l.tables)) Some None l.i (1 + l.n) ≡ dummy_row_of l.p (lent l.tables)
