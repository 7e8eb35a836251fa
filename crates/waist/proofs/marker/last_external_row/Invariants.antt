use Rattle.sparse.specs.Tables.{lent}
use Prim.Native.Nat.{◌-◌, ◌≤◌}
use mathlib.Core.Path.{◌≡◌}
use Rattle.std.specs.Prelude.{Some, None}
use Rattle.rows.specs.choose.Back.{back}
use Rattle.waist.specs.MarkerRow.{external_held, external_row_of}
use Rattle.waist.proofs.marker.last_external_row.Given as goal

abbrev pub invariant-loop-i : goal.invariant-loop-i
invariant-loop-i l = (back (external_held l.p (lent l.tables)) Some None (l.i - 1) ≡ external_row_of l.p (lent l.tables)) × (1 ≤ l.i)
