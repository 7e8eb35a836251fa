-- A tableau without one symbol's column.
use Rattle.std.specs.Prelude.{ℕ, List, map}
use Rattle.steps.specs.Symbol.{Symbol, delete_cell, delete_symbol}
use Rattle.steps.specs.State.{Basic, Tableau}

abbrev pub cut : ℕ → List Symbol → Basic → Basic
cut s y x = record { symbol = x.symbol; row = record { constant = x.row.constant; cells = delete_cell s y x.row.cells } }

abbrev pub cut_tableau : ℕ → Tableau → Tableau
cut_tableau s t =
    record { cutoff = t.cutoff; symbols = delete_symbol s t.symbols; next_id = t.next_id; rows = map (cut s t.symbols) t.rows; objective = delete_cell s t.symbols t.objective }
