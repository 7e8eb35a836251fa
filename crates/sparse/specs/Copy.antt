-- The live part of tables put over other tables, place by place: what stands past the counts stays the lender's.
use Rattle.std.specs.Prelude.{ℕ, ◌+◌, List, [], ◌∷◌, Float, get_or}
use Rattle.std.specs.Float.{nan}
use Rattle.sparse.specs.Places.{next_id_at, gone_count_at, ids_at, variable_numbers_at, variable_uses_at, constraint_numbers_at, constraint_groups_at, gone_numbers_at, kinds_at, row_places_at, variable_places_at, changed_at, constraint_markers_at, constraint_others_at, term_counts_at, edit_variables_at, edit_markers_at, edit_others_at, terms_at, relations_at, constants_at, old_values_at, objective_at, cutoff_at, constraint_strengths_at, edit_strengths_at, suggestions_at, coefficients_at, constraint_constants_at}
use Rattle.sparse.specs.Sparse.{Sparse, symbol_count, row_count, cell_count, variable_count, constraint_count, edit_count, gone_count, terms_from}
use Rattle.sparse.specs.Stretches.{Stretch, part, lay, copied}

-- the counts and flags: the next id is the first of them, the count of the gone the last
abbrev pub heading_end : ℕ
heading_end = gone_count_at + 1

unfoldable pub live_words : Sparse → List (Stretch ℕ)
live_words t =
    part 0 t.words gone_numbers_at (gone_count t)
    ∷ part 0 t.words constraint_groups_at (constraint_count t)
    ∷ part 0 t.words constraint_numbers_at (constraint_count t)
    ∷ part 0 t.words variable_uses_at (variable_count t)
    ∷ part 0 t.words variable_numbers_at (variable_count t)
    ∷ part 0 t.words (ids_at + 1) (symbol_count t)
    ∷ part 0 t.words next_id_at heading_end
    ∷ []

unfoldable pub live_bytes : Sparse → List (Stretch ℕ)
live_bytes t =
    part 0 t.bytes relations_at (constraint_count t)
    ∷ part 0 t.bytes terms_at (terms_from t (constraint_count t))
    ∷ part 0 t.bytes edit_others_at (edit_count t)
    ∷ part 0 t.bytes edit_markers_at (edit_count t)
    ∷ part 0 t.bytes edit_variables_at (edit_count t)
    ∷ part 0 t.bytes term_counts_at (constraint_count t)
    ∷ part 0 t.bytes constraint_others_at (constraint_count t)
    ∷ part 0 t.bytes constraint_markers_at (constraint_count t)
    ∷ part 0 t.bytes changed_at (variable_count t)
    ∷ part 0 t.bytes variable_places_at (variable_count t)
    ∷ part 0 t.bytes (row_places_at + 1) (row_count t)
    ∷ part 0 t.bytes (kinds_at + 1) (symbol_count t)
    ∷ []

unfoldable pub live_reals : Sparse → List (Stretch Float)
live_reals t =
    part nan t.reals constraint_constants_at (constraint_count t)
    ∷ part nan t.reals coefficients_at (terms_from t (constraint_count t))
    ∷ part nan t.reals suggestions_at (edit_count t)
    ∷ part nan t.reals edit_strengths_at (edit_count t)
    ∷ part nan t.reals constraint_strengths_at (constraint_count t)
    ∷ part nan t.reals cutoff_at 1
    ∷ part nan t.reals (objective_at + 1) (symbol_count t)
    ∷ part nan t.reals old_values_at (variable_count t)
    ∷ part nan t.reals (constants_at + 1) (row_count t)
    ∷ []

-- the live part of w over t
unfoldable pub put_over : Sparse → Sparse → Sparse
put_over w t =
    record {
      words = lay (live_words w) t.words;
      keys = copied (λ j. get_or w.keys j 0) (cell_count w) t.keys;
      bytes = lay (live_bytes w) t.bytes;
      reals = lay (live_reals w) t.reals;
      values = copied (λ j. get_or w.values j nan) (cell_count w) t.values;
    }
