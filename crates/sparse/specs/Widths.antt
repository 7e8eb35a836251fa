-- What is read has a cell for each symbol: in every row, and in the objective.
-- Assumes nothing.
use Rattle.std.specs.Prelude.{ℕ, ◌+◌, ◌*◌, ◌<◌, ◌≡◌, length}
use Rattle.std.proofs.Math.Path.{sym}
use Rattle.std.proofs.Common.{◌∙◌}
use Rattle.std.proofs.Math.ListN.{get_or}
use Rattle.std.specs.Float.{nan}
use Rattle.laws.specs.Lists.{length-tab, get_or-tab}
use Rattle.steps.specs.State.{Basic}
use Rattle.layout.specs.cells.Names.{row_span}
use Rattle.layout.specs.cells.Cells.{cell_at, row_of}
use Rattle.sparse.specs.Places.{objective_at}
use Rattle.sparse.specs.Sparse.{Sparse, symbol_count, row_count, cell_count, symbol_at, basic_of, symbols_of, basics_of, objective_of}

module _ (t : Sparse) where
  pub symbols-read : length (symbols_of t) ≡ symbol_count t
  unfolding symbols_of
  symbols-read = length-tab (symbol_at t) 1 (symbol_count t)

  pub rows-read : length (basics_of t) ≡ row_count t
  unfolding basics_of
  rows-read = length-tab (basic_of t) 1 (row_count t)

  pub objective-wide : length (objective_of t) ≡ length (symbols_of t)
  unfolding objective_of
  objective-wide = length-tab (λ p. get_or t.reals (objective_at + p) nan) 1 (symbol_count t) ∙ sym symbols-read

  -- the i-th row of the state, from 0, is row 1 + i of the tables
  pub row_read : (i : ℕ) (d : Basic) → i < row_count t → get_or (basics_of t) i d ≡ basic_of t (1 + i)
  unfolding basics_of
  row_read i d h = get_or-tab (basic_of t) 1 (row_count t) i d h

  pub cells_wide : (i : ℕ) → length (basic_of t i).row.cells ≡ length (symbols_of t)
  unfolding basic_of row_of
  cells_wide i = length-tab (λ p. cell_at t.keys t.values (cell_count t) (i * row_span + p)) 1 (symbol_count t) ∙ sym symbols-read
