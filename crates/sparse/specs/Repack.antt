-- Cells that stand for rows: keys that ascend, and no value 0.0.
use Prim.Native.Nat.{ℕ, ◌/◌, ◌%◌, ◌≤◌, ◌<◌}
use Rattle.std.specs.Prelude.{◌≡◌, Float}
use Rattle.std.proofs.Math.Bool.{true}
use mathlib.Core.List.{List}
use Rattle.std.specs.Float.Ieee.{nan, ne}
use Rattle.std.proofs.Math.ListN.{get_or}
use Rattle.steps.specs.Number.{zero64}
use Rattle.layout.specs.cells.Names.{row_span}
use Rattle.layout.specs.cells.Cells.{Ascending}

-- ---- the cells of rows 1 to r at the places 1 to k, none of them 0.0
pub record Held (keys : List ℕ) (vals : List Float) (n k r : ℕ) : Type 0 where
  pub up : Ascending keys n
  pub rows : (j : ℕ) → j < n → (1 ≤ get_or keys j 0 / row_span) × (get_or keys j 0 / row_span ≤ r)
  pub places : (j : ℕ) → j < n → (1 ≤ get_or keys j 0 % row_span) × (get_or keys j 0 % row_span ≤ k)
  pub present : (j : ℕ) → j < n → ne (get_or vals j nan) zero64 ≡ true
