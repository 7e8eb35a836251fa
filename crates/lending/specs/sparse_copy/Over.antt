-- The live part of each table over another, with the counts that the words have; and tables that are all zero.
-- Assumes nothing.
use Rattle.std.specs.Prelude.{ℕ, ◌+◌, ◌≡◌, refl, List, Float, length, get_or, replicate}
use Rattle.std.proofs.Common.{◌∙◌}
use Rattle.std.specs.Float.{nan}
use Rattle.laws.specs.Loops.{run}
use Rattle.laws.specs.Lists.{tab}
use Rattle.layout.specs.Layout.{over}
use Rattle.layout.specs.Laying.{remade, stretch}
use Rattle.steps.specs.Number.{zero64}
use Rattle.sparse.specs.Places.{next_id_at, ids_at, variable_numbers_at, variable_uses_at, constraint_numbers_at, constraint_groups_at, gone_numbers_at, kinds_at, row_places_at, variable_places_at, changed_at, constraint_markers_at, constraint_others_at, term_counts_at, edit_variables_at, edit_markers_at, edit_others_at, terms_at, relations_at, constants_at, old_values_at, objective_at, cutoff_at, constraint_strengths_at, edit_strengths_at, suggestions_at, coefficients_at, constraint_constants_at}
use Rattle.sparse.specs.Sparse.{Sparse, symbol_count, row_count, cell_count, variable_count, constraint_count, edit_count, gone_count, terms_from}
use Rattle.sparse.specs.Stretches.{lay, copied}
use Rattle.sparse.specs.Copy.{heading_end, live_words, live_bytes, live_reals, put_over}

abbrev pub tables : List ℕ → List ℕ → List ℕ → List Float → List Float → Sparse
tables w k b r v = record { words = w; keys = k; bytes = b; reals = r; values = v }

-- the n places from a on, of one table over another
unfoldable pub put_part : {A : Type 0} → A → List A → ℕ → ℕ → List A → List A
put_part d from a n to = over a (tab (λ j. get_or from j d) a n) to

pub part-runs : {A : Type 0} (d : A) (from : List A) (a n : ℕ) (to : List A) → run (remade d (λ i _. get_or from i d)) a (a + n) to ≡ put_part d from a n to
unfolding put_part over
part-runs d from a n to = stretch d from (tab (λ j. get_or from j d) a n) a n (a + n) to refl refl

-- ---- table by table: k symbols, r rows, v variables, c constraints, e edits, m terms, g gone

unfoldable pub words_over : List ℕ → ℕ → ℕ → ℕ → ℕ → List ℕ → List ℕ
words_over w k v c g to = put_part 0 w gone_numbers_at g (put_part 0 w constraint_groups_at c (put_part 0 w constraint_numbers_at c (put_part 0 w variable_uses_at v (put_part 0 w variable_numbers_at v (put_part 0 w (ids_at + 1) k (put_part 0 w next_id_at heading_end to))))))

-- the variables' and the symbols' and the rows'
unfoldable pub names_over : List ℕ → ℕ → ℕ → ℕ → List ℕ → List ℕ
names_over b k r v to = put_part 0 b changed_at v (put_part 0 b variable_places_at v (put_part 0 b (row_places_at + 1) r (put_part 0 b (kinds_at + 1) k to)))

unfoldable pub records_over : List ℕ → ℕ → ℕ → ℕ → List ℕ → List ℕ
records_over b c e m to =
    put_part 0 b relations_at c (put_part 0 b terms_at m (put_part 0 b edit_others_at e (put_part 0 b edit_markers_at e (put_part 0 b edit_variables_at e (put_part 0 b term_counts_at c (put_part 0 b constraint_others_at c (put_part 0 b constraint_markers_at c to)))))))

unfoldable pub reals_over : List Float → ℕ → ℕ → ℕ → ℕ → ℕ → ℕ → List Float → List Float
reals_over f k r v c e m to =
    put_part nan f constraint_constants_at c (put_part nan f coefficients_at m (put_part nan f suggestions_at e (put_part nan f edit_strengths_at e (put_part nan f constraint_strengths_at c (put_part nan f cutoff_at 1 (put_part nan f (objective_at + 1) k (put_part nan f old_values_at v (put_part nan f (constants_at + 1) r to))))))))

abbrev all_over : Sparse → Sparse → Sparse
all_over w t =
    record {
      words = words_over w.words (symbol_count w) (variable_count w) (constraint_count w) (gone_count w) t.words;
      keys = put_part 0 w.keys 0 (cell_count w) t.keys;
      bytes = records_over w.bytes (constraint_count w) (edit_count w) (terms_from w (constraint_count w)) (names_over w.bytes (symbol_count w) (row_count w) (variable_count w) t.bytes);
      reals = reals_over w.reals (symbol_count w) (row_count w) (variable_count w) (constraint_count w) (edit_count w) (terms_from w (constraint_count w)) t.reals;
      values = put_part nan w.values 0 (cell_count w) t.values;
    }

over-is : (w t : Sparse) → all_over w t ≡ put_over w t
unfolding put_over lay live_words live_bytes live_reals copied put_part words_over names_over records_over reals_over
over-is w t = refl

-- the five of them are the live part of w over t
pub all-over : (w t : Sparse) {m : ℕ} {a b d names : List ℕ} {f g : List Float}
    → m ≡ terms_from w (constraint_count w)
    → a ≡ words_over w.words (symbol_count w) (variable_count w) (constraint_count w) (gone_count w) t.words
    → b ≡ put_part 0 w.keys 0 (cell_count w) t.keys
    → g ≡ put_part nan w.values 0 (cell_count w) t.values
    → names ≡ names_over w.bytes (symbol_count w) (row_count w) (variable_count w) t.bytes
    → d ≡ records_over w.bytes (constraint_count w) (edit_count w) m names
    → f ≡ reals_over w.reals (symbol_count w) (row_count w) (variable_count w) (constraint_count w) (edit_count w) m t.reals
    → tables a b d f g ≡ put_over w t
all-over w t e e₁ e₂ e₃ e₄ e₅ e₆ = (rw (e₁, e₂, e₃, e₅, e₄, e₆, e) refl) ∙ over-is w t

-- ---- "working room, where lent, is all zero after every call"

unfoldable pub cleared : Sparse → Sparse
cleared t =
    record {
      words = replicate (length t.words) 0;
      keys = replicate (length t.keys) 0;
      bytes = replicate (length t.bytes) 0;
      reals = replicate (length t.reals) zero64;
      values = replicate (length t.values) zero64;
    }
