-- What fits where: the tables' lengths, and states that have a place for each of their parts.
use Rattle.std.specs.Prelude.{ℕ, ◌-◌, ◌≤◌, ◌<◌, ◌≡◌, List, [], length, get_or}
use Rattle.std.proofs.Math.Option.{Option, none, some}
use Rattle.steps.specs.Symbol.{Symbol}
use Rattle.steps.specs.State.{State}
use Rattle.layout.specs.cells.Names.{cell_room, last_place}
use Rattle.sparse.specs.Places.{most_rows, most_variables, most_constraints, most_terms, most_gone, words_size, bytes_size, reals_size}
use Rattle.sparse.specs.Sparse.{Sparse}
use Rattle.sparse.specs.Laying.{Room, Settled}
use Rattle.sparse.specs.Write.{no_symbol, no_basic, no_variable, no_term, no_constraint, no_edit, place_of, index_of, all_terms, cells_of}

-- what the arrays' types say
abbrev pub Lengths : Sparse → Type 0
Lengths t = (length t.words ≡ words_size) × (length t.keys ≡ cell_room) × (length t.bytes ≡ bytes_size) × (length t.reals ≡ reals_size) × (length t.values ≡ cell_room)

-- the symbol is one of xs, and stands at its place
abbrev pub Live : List Symbol → Symbol → Type 0
Live xs x = (1 ≤ place_of xs x) × (place_of xs x ≤ length xs) × (get_or xs (place_of xs x - 1) no_symbol ≡ x)

abbrev pub LiveOther : List Symbol → Option Symbol → Type 0
LiveOther xs none = Unit {0}
LiveOther xs (some x) = Live xs x

-- a state with room for each of its parts, a cell for each symbol in each row and in the objective; each symbol that it names is live, and each variable
pub record Fits (s : State) : Type 0 where
  pub symbols : length s.tableau.symbols ≤ last_place
  pub rows : length s.tableau.rows ≤ most_rows
  pub variables : length s.changes.variables ≤ most_variables
  pub constraints : length s.constraints ≤ most_constraints
  pub edits : length s.edits ≤ most_constraints
  pub terms : length (all_terms s) ≤ most_terms
  pub gone : length s.changes.gone ≤ most_gone
  pub objective : length s.tableau.objective ≡ length s.tableau.symbols
  pub wide : (q : ℕ) → q < length s.tableau.rows → length (get_or (cells_of s.tableau) q []) ≡ length s.tableau.symbols
  -- no cell is -0.0: an absent cell reads as 0.0
  pub settled : Settled (cells_of s.tableau) (length s.tableau.symbols)
  pub room : Room (length s.tableau.symbols) (cells_of s.tableau) 0 cell_room
  pub basics : (j : ℕ) → j < length s.tableau.rows → Live s.tableau.symbols (get_or s.tableau.rows j no_basic).symbol
  pub owners : (j : ℕ) → j < length s.changes.variables → Live s.tableau.symbols (get_or s.changes.variables j no_variable).symbol
  pub apart : (i j : ℕ) → i < j → j < length s.changes.variables → place_of s.tableau.symbols (get_or s.changes.variables i no_variable).symbol ≡ place_of s.tableau.symbols (get_or s.changes.variables j no_variable).symbol → ⊥
  pub markers : (j : ℕ) → j < length s.constraints → Live s.tableau.symbols (get_or s.constraints j no_constraint).tag.marker
  pub others : (j : ℕ) → j < length s.constraints → LiveOther s.tableau.symbols (get_or s.constraints j no_constraint).tag.other
  pub pluses : (j : ℕ) → j < length s.edits → Live s.tableau.symbols (get_or s.edits j no_edit).tag.marker
  pub minuses : (j : ℕ) → j < length s.edits → LiveOther s.tableau.symbols (get_or s.edits j no_edit).tag.other
  pub named : (j : ℕ) → j < length (all_terms s) → index_of s.changes.variables (get_or (all_terms s) j no_term).variable < length s.changes.variables
  pub edited : (j : ℕ) → j < length s.edits → index_of s.changes.variables (get_or s.edits j no_edit).variable < length s.changes.variables
