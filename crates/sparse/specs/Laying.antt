-- Dense rows laid down as cells, one after the other.
use Prim.Native.Nat.{ℕ, suc, ◌+◌, ◌*◌, ◌≤◌, ◌<◌}
use Rattle.std.specs.Prelude.{◌≡◌, length}
use mathlib.Core.List.{List, [], ◌∷◌}
use Rattle.std.specs.Float.Ieee.{Float, nan}
use Rattle.std.proofs.Math.ListN.{get_or}
use Rattle.steps.specs.Number.{zero64}
use Rattle.layout.specs.cells.Names.{row_span}
use Rattle.layout.specs.cells.Cells.{Ascending, Cells, cell_at, packed, counted, settled}

-- the rows of k cells each, as the rows i, i + 1, .. from the next place on
unfoldable pub rows_laid : ℕ → ℕ → List (List Float) → Cells → Cells
rows_laid k i [] s = s
rows_laid k i (r ∷ rs) s = rows_laid k (suc i) rs (packed k i (zero64 ∷ r) s)

-- there is room for them: each row has room for all its cells when it comes
unfoldable pub Room : ℕ → List (List Float) → ℕ → ℕ → Type 0
Room k [] at n = Unit {0}
Room k (r ∷ rs) at n = (at + k ≤ n) × Room k rs (at + counted k (zero64 ∷ r)) n

-- the rows 1 up to i are laid down, as f has them
pub record Laid (k i : ℕ) (t : Cells) (f : ℕ → List Float) : Type 0 where
  pub up : Ascending t.keys t.size
  pub below : (j : ℕ) → j < t.size → get_or t.keys j 0 < i * row_span
  pub reads : (q p : ℕ) → q < i → 1 ≤ q → 1 ≤ p → p ≤ k → cell_at t.keys t.vals t.size (q * row_span + p) ≡ settled (get_or (f q) p nan)

-- ---- the law

-- a cell is as it is read: none is -0.0
abbrev pub Settled : List (List Float) → ℕ → Type 0
Settled rs k = (q p : ℕ) → q < length rs → p < k → settled (get_or (get_or rs q []) p nan) ≡ get_or (get_or rs q []) p nan
