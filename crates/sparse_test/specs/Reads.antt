-- "18 | a lent table has the wrong length or doesn't read as a state": document 01's test, of the state that the tables read as; beside it what the sparse form asks. An array's type has the lengths.
use Rattle.std.specs.Prelude.{ℕ, ◌+◌, ◌/◌, ◌%◌, Bool, ◌&&◌, leb, ltb, get_or}
use Rattle.laws.specs.Lists.{all_in}
use Rattle.steps.specs.Readable.{readable}
use Rattle.layout.specs.cells.Names.{row_span, last_place, cell_room}
use Rattle.layout.specs.cells.Cells.{ascends_of, present_of}
use Rattle.sparse.specs.Places.{most_variables, most_constraints, most_gone, next_id_at, should_clear_at, whole_at, variable_numbers_at, constraint_numbers_at, gone_numbers_at, kinds_at, row_places_at, variable_places_at, changed_at, constraint_markers_at, constraint_others_at, edit_variables_at, edit_markers_at, edit_others_at, terms_at, relations_at}
use Rattle.sparse.specs.Sparse.{Sparse, symbol_count, row_count, cell_count, variable_count, constraint_count, edit_count, gone_count, terms_from, read}
use Rattle.sparse.specs.Form.{index_at}
use Rattle.sparse_test.specs.Stretch.{between_in, most_in}

-- the greatest number that a u32 holds
abbrev pub greatest_u32 : ℕ
greatest_u32 = 4294967295

-- "counts are in range": each first by itself, so that their sums are small. Flags are 0 or 1.
unfoldable pub counts_fit : Sparse → Bool
counts_fit t =
    ltb 0 (get_or t.words next_id_at 0)
    && leb (get_or t.words next_id_at 0) greatest_u32
    && leb (symbol_count t) last_place
    && leb (cell_count t) cell_room
    && leb (variable_count t) most_variables
    && leb (get_or t.words should_clear_at 0) 1
    && leb (get_or t.words whole_at 0) 1
    && leb (gone_count t) most_gone
    && (leb (constraint_count t) most_constraints && (leb (edit_count t) most_constraints && (leb (constraint_count t + edit_count t) most_constraints && leb (row_count t) (constraint_count t + edit_count t))))

-- each of the n bytes from place a on is the place of a live symbol
unfoldable pub live_in : Sparse → ℕ → ℕ → Bool
live_in t a n = between_in t.bytes a n 1 (symbol_count t + 1)

-- .. of a live variable's symbol
unfoldable pub named_in : Sparse → ℕ → ℕ → Bool
named_in t a n = all_in (λ j. ltb (index_at t (get_or t.bytes (a + j) 0)) (variable_count t)) 0 n

-- the key is of one of the rows and one of the live symbols
unfoldable pub key_fits : Sparse → ℕ → Bool
key_fits t x = leb 1 (x / row_span) && leb (x / row_span) (row_count t) && (leb 1 (x % row_span) && leb (x % row_span) (symbol_count t))

-- "cells by ascending id, none equal to 0.0"
unfoldable pub cells_fit : Sparse → Bool
cells_fit t = ascends_of t.keys (cell_count t) && present_of t.values (cell_count t) && all_in (λ j. key_fits t (get_or t.keys j 0)) 0 (cell_count t)

-- the sparse form: counts within the room, a symbol named by its place, numbers that a u32 holds, flags, relations that are one of three
unfoldable pub form_fits : Sparse → Bool
form_fits t =
    counts_fit t
    && most_in t.bytes (kinds_at + 1) (symbol_count t) 3
    && live_in t (row_places_at + 1) (row_count t)
    && cells_fit t
    && most_in t.words variable_numbers_at (variable_count t) greatest_u32
    && live_in t variable_places_at (variable_count t)
    && most_in t.bytes changed_at (variable_count t) 1
    && most_in t.words constraint_numbers_at (constraint_count t) greatest_u32
    && live_in t constraint_markers_at (constraint_count t)
    && most_in t.bytes constraint_others_at (constraint_count t) (symbol_count t)
    && named_in t terms_at (terms_from t (constraint_count t))
    && named_in t edit_variables_at (edit_count t)
    && live_in t edit_markers_at (edit_count t)
    && most_in t.bytes edit_others_at (edit_count t) (symbol_count t)
    && most_in t.words gone_numbers_at (gone_count t) greatest_u32
    && most_in t.bytes relations_at (constraint_count t) 2

-- 18 is given exactly if this is false
unfoldable pub reads : Sparse → Bool
reads t = form_fits t && readable (read t)
