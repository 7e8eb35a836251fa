-- The sparse form that tables have where they hold a state: counts within the room, each symbol named by a live place, ids, numbers and keys ascending, no cell 0.0, flags 0 or 1, relations one of three.
-- Tables of this form are what the state that they read as writes into them: there is one form only.
use Rattle.std.specs.Prelude.{ℕ, ◌+◌, ◌≤◌, ◌<◌, ◌≡◌, eqb, get_or}
use Rattle.std.proofs.Common.{sym, arith, eqb-true}
use Rattle.laws.specs.Loops.{first}
use Rattle.layout.specs.cells.Names.{last_place, cell_room}
use Rattle.layout.specs.cells.Seek.{first-elim, first-at}
use Rattle.sparse.specs.Places.{most_rows, most_variables, most_constraints, most_terms, most_gone, should_clear_at, whole_at, ids_at, variable_numbers_at, kinds_at, row_places_at, variable_places_at, changed_at, constraint_markers_at, constraint_others_at, edit_variables_at, edit_markers_at, edit_others_at, terms_at, relations_at}
use Rattle.sparse.specs.Lookup.{Ascends}
use Rattle.sparse.specs.Sparse.{Sparse, symbol_count, row_count, cell_count, variable_count, constraint_count, edit_count, gone_count, number_at, terms_from}
use Rattle.sparse.specs.Repack.{Held}

-- which variable's symbol stands at place p; how many variables there are, if none's
unfoldable pub index_at : Sparse → ℕ → ℕ
index_at t p = first (λ v. eqb p (get_or t.bytes (variable_places_at + v) 0)) (λ v. v) (variable_count t) 0 (variable_count t)

pub index-named : (t : Sparse) (p : ℕ) → index_at t p < variable_count t → (get_or t.bytes (variable_places_at + index_at t p) 0 ≡ p) × (number_at t p ≡ get_or t.words (variable_numbers_at + index_at t p) 0)
unfolding index_at number_at
index-named t p h =
    first-elim (λ v. eqb p (get_or t.bytes (variable_places_at + v) 0)) (λ v. v) (variable_count t)
    (λ (z : ℕ). z < variable_count t → (get_or t.bytes (variable_places_at + z) 0 ≡ p) × (number_at t p ≡ get_or t.words (variable_numbers_at + z) 0)) 0 (variable_count t) (omega arith)
    (λ r a b e f l. (
      sym (eqb-true p (get_or t.bytes (variable_places_at + r) 0) e),
      first-at (λ v. eqb p (get_or t.bytes (variable_places_at + v) 0)) (λ v. get_or t.words (variable_numbers_at + v) 0) 0 0 (variable_count t) r a b e f,
    ))
    (λ f l. absurd (omega (arith, l))) h

-- each count is within the room
pub record Counts (t : Sparse) : Type 0 where
  pub symbols : symbol_count t ≤ last_place
  pub rows : row_count t ≤ most_rows
  pub cells : cell_count t ≤ cell_room
  pub variables : variable_count t ≤ most_variables
  pub constraints : constraint_count t ≤ most_constraints
  pub edits : edit_count t ≤ most_constraints
  pub terms : terms_from t (constraint_count t) ≤ most_terms
  pub gone : gone_count t ≤ most_gone

-- a symbol's place
abbrev pub At : Sparse → ℕ → Type 0
At t p = (1 ≤ p) × (p ≤ symbol_count t)

pub record Form (t : Sparse) : Type 0 where
  pub counts : Counts t
  pub clear : get_or t.words should_clear_at 0 ≤ 1
  pub whole : get_or t.words whole_at 0 ≤ 1
  pub ids : (i j : ℕ) → 1 ≤ i → i < j → j ≤ symbol_count t → get_or t.words (ids_at + i) 0 < get_or t.words (ids_at + j) 0
  pub kinds : (p : ℕ) → 1 ≤ p → p ≤ symbol_count t → get_or t.bytes (kinds_at + p) 0 ≤ 3
  pub rows : (i : ℕ) → 1 ≤ i → i ≤ row_count t → At t (get_or t.bytes (row_places_at + i) 0)
  pub cells : Held t.keys t.values (cell_count t) (symbol_count t) (row_count t)
  pub numbers : Ascends t.words variable_numbers_at (variable_count t)
  pub owners : (i : ℕ) → i < variable_count t → At t (get_or t.bytes (variable_places_at + i) 0)
  pub changed : (i : ℕ) → i < variable_count t → get_or t.bytes (changed_at + i) 0 ≤ 1
  pub markers : (i : ℕ) → i < constraint_count t → At t (get_or t.bytes (constraint_markers_at + i) 0)
  pub others : (i : ℕ) → i < constraint_count t → get_or t.bytes (constraint_others_at + i) 0 ≤ symbol_count t
  pub relations : (i : ℕ) → i < constraint_count t → get_or t.bytes (relations_at + i) 0 ≤ 2
  pub edited : (i : ℕ) → i < edit_count t → index_at t (get_or t.bytes (edit_variables_at + i) 0) < variable_count t
  pub pluses : (i : ℕ) → i < edit_count t → At t (get_or t.bytes (edit_markers_at + i) 0)
  pub minuses : (i : ℕ) → i < edit_count t → get_or t.bytes (edit_others_at + i) 0 ≤ symbol_count t
  pub named : (j : ℕ) → j < terms_from t (constraint_count t) → index_at t (get_or t.bytes (terms_at + j) 0) < variable_count t
