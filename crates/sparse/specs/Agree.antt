-- Tables that agree on the live part.
use Prim.Native.Nat.{ℕ, ◌+◌, ◌≤◌, ◌<◌}
use Rattle.std.specs.Prelude.{◌≡◌}
use Rattle.std.specs.Float.{nan}
use Rattle.std.proofs.Math.ListN.{get_or}
use Rattle.sparse.specs.Places.{ids_at, variable_numbers_at, variable_uses_at, constraint_numbers_at, constraint_groups_at, gone_numbers_at, kinds_at, row_places_at, variable_places_at, changed_at, constraint_markers_at, constraint_others_at, term_counts_at, edit_variables_at, edit_markers_at, edit_others_at, terms_at, relations_at, constants_at, old_values_at, objective_at, cutoff_at, constraint_strengths_at, edit_strengths_at, suggestions_at, coefficients_at, constraint_constants_at}
use Rattle.sparse.specs.Sparse.{Sparse, symbol_count, row_count, cell_count, variable_count, constraint_count, edit_count, gone_count, terms_from}

-- u has what t has, wherever t's counts reach
pub record Agree (t u : Sparse) : Type 0 where
  pub heading : (j : ℕ) → j < 10 → get_or u.words j 0 ≡ get_or t.words j 0
  pub ids : (p : ℕ) → 1 ≤ p → p ≤ symbol_count t → get_or u.words (ids_at + p) 0 ≡ get_or t.words (ids_at + p) 0
  pub numbers : (j : ℕ) → j < variable_count t → get_or u.words (variable_numbers_at + j) 0 ≡ get_or t.words (variable_numbers_at + j) 0
  pub uses : (j : ℕ) → j < variable_count t → get_or u.words (variable_uses_at + j) 0 ≡ get_or t.words (variable_uses_at + j) 0
  pub constraint_numbers : (j : ℕ) → j < constraint_count t → get_or u.words (constraint_numbers_at + j) 0 ≡ get_or t.words (constraint_numbers_at + j) 0
  pub constraint_groups : (j : ℕ) → j < constraint_count t → get_or u.words (constraint_groups_at + j) 0 ≡ get_or t.words (constraint_groups_at + j) 0
  pub gone : (j : ℕ) → j < gone_count t → get_or u.words (gone_numbers_at + j) 0 ≡ get_or t.words (gone_numbers_at + j) 0
  pub kinds : (p : ℕ) → 1 ≤ p → p ≤ symbol_count t → get_or u.bytes (kinds_at + p) 0 ≡ get_or t.bytes (kinds_at + p) 0
  pub row_places : (p : ℕ) → 1 ≤ p → p ≤ row_count t → get_or u.bytes (row_places_at + p) 0 ≡ get_or t.bytes (row_places_at + p) 0
  pub owners : (j : ℕ) → j < variable_count t → get_or u.bytes (variable_places_at + j) 0 ≡ get_or t.bytes (variable_places_at + j) 0
  pub changed : (j : ℕ) → j < variable_count t → get_or u.bytes (changed_at + j) 0 ≡ get_or t.bytes (changed_at + j) 0
  pub markers : (j : ℕ) → j < constraint_count t → get_or u.bytes (constraint_markers_at + j) 0 ≡ get_or t.bytes (constraint_markers_at + j) 0
  pub others : (j : ℕ) → j < constraint_count t → get_or u.bytes (constraint_others_at + j) 0 ≡ get_or t.bytes (constraint_others_at + j) 0
  pub term_counts : (j : ℕ) → j < constraint_count t → get_or u.bytes (term_counts_at + j) 0 ≡ get_or t.bytes (term_counts_at + j) 0
  pub edited : (j : ℕ) → j < edit_count t → get_or u.bytes (edit_variables_at + j) 0 ≡ get_or t.bytes (edit_variables_at + j) 0
  pub pluses : (j : ℕ) → j < edit_count t → get_or u.bytes (edit_markers_at + j) 0 ≡ get_or t.bytes (edit_markers_at + j) 0
  pub minuses : (j : ℕ) → j < edit_count t → get_or u.bytes (edit_others_at + j) 0 ≡ get_or t.bytes (edit_others_at + j) 0
  pub terms : (j : ℕ) → j < terms_from t (constraint_count t) → get_or u.bytes (terms_at + j) 0 ≡ get_or t.bytes (terms_at + j) 0
  pub relations : (j : ℕ) → j < constraint_count t → get_or u.bytes (relations_at + j) 0 ≡ get_or t.bytes (relations_at + j) 0
  pub constants : (p : ℕ) → 1 ≤ p → p ≤ row_count t → get_or u.reals (constants_at + p) nan ≡ get_or t.reals (constants_at + p) nan
  pub olds : (j : ℕ) → j < variable_count t → get_or u.reals (old_values_at + j) nan ≡ get_or t.reals (old_values_at + j) nan
  pub objective : (p : ℕ) → 1 ≤ p → p ≤ symbol_count t → get_or u.reals (objective_at + p) nan ≡ get_or t.reals (objective_at + p) nan
  pub cutoff : get_or u.reals cutoff_at nan ≡ get_or t.reals cutoff_at nan
  pub strengths : (j : ℕ) → j < constraint_count t → get_or u.reals (constraint_strengths_at + j) nan ≡ get_or t.reals (constraint_strengths_at + j) nan
  pub edit_strengths : (j : ℕ) → j < edit_count t → get_or u.reals (edit_strengths_at + j) nan ≡ get_or t.reals (edit_strengths_at + j) nan
  pub suggestions : (j : ℕ) → j < edit_count t → get_or u.reals (suggestions_at + j) nan ≡ get_or t.reals (suggestions_at + j) nan
  pub coefficients : (j : ℕ) → j < terms_from t (constraint_count t) → get_or u.reals (coefficients_at + j) nan ≡ get_or t.reals (coefficients_at + j) nan
  pub constraint_constants : (j : ℕ) → j < constraint_count t → get_or u.reals (constraint_constants_at + j) nan ≡ get_or t.reals (constraint_constants_at + j) nan
  pub keys : (j : ℕ) → j < cell_count t → get_or u.keys j 0 ≡ get_or t.keys j 0
  pub values : (j : ℕ) → j < cell_count t → get_or u.values j nan ≡ get_or t.values j nan
