-- The places of the sparse tables, as src/lib.rt has them for the code.
use Rattle.std.specs.Prelude.{ℕ}

-- the most rows that a call works on
abbrev pub most_rows : ℕ
most_rows = 50

abbrev pub most_variables : ℕ
most_variables = 32

-- edits counted
abbrev pub most_constraints : ℕ
most_constraints = 48

-- of all constraints
abbrev pub most_terms : ℕ
most_terms = 768

-- "At most 32 gone entries wait."
abbrev pub most_gone : ℕ
most_gone = 32

-- ---- words: the next id, counts and flags; then the symbols' ids, the variables' numbers and uses, the constraints' numbers and groups, the gone variables' numbers
abbrev pub next_id_at : ℕ
next_id_at = 0

abbrev pub symbol_count_at : ℕ
symbol_count_at = 1

abbrev pub row_count_at : ℕ
row_count_at = 2

abbrev pub cell_count_at : ℕ
cell_count_at = 3

abbrev pub variable_count_at : ℕ
variable_count_at = 4

abbrev pub constraint_count_at : ℕ
constraint_count_at = 5

abbrev pub edit_count_at : ℕ
edit_count_at = 6

abbrev pub should_clear_at : ℕ
should_clear_at = 7

abbrev pub whole_at : ℕ
whole_at = 8

abbrev pub gone_count_at : ℕ
gone_count_at = 9

abbrev pub ids_at : ℕ
ids_at = 15

abbrev pub variable_numbers_at : ℕ
variable_numbers_at = 146

abbrev pub variable_uses_at : ℕ
variable_uses_at = 178

abbrev pub constraint_numbers_at : ℕ
constraint_numbers_at = 210

abbrev pub constraint_groups_at : ℕ
constraint_groups_at = 258

abbrev pub gone_numbers_at : ℕ
gone_numbers_at = 306

abbrev pub words_size : ℕ
words_size = 338

-- ---- bytes: the symbols' kinds and the rows' symbols; the variables' symbols and changed flags; the constraints' marker, other, count of terms; the edits' variable, marker, other; the terms' variables; the constraints' relations
abbrev pub kinds_at : ℕ
kinds_at = 0

abbrev pub row_places_at : ℕ
row_places_at = 136

abbrev pub variable_places_at : ℕ
variable_places_at = 192

abbrev pub changed_at : ℕ
changed_at = 224

abbrev pub constraint_markers_at : ℕ
constraint_markers_at = 256

abbrev pub constraint_others_at : ℕ
constraint_others_at = 304

abbrev pub term_counts_at : ℕ
term_counts_at = 352

abbrev pub edit_variables_at : ℕ
edit_variables_at = 400

abbrev pub edit_markers_at : ℕ
edit_markers_at = 448

abbrev pub edit_others_at : ℕ
edit_others_at = 496

abbrev pub terms_at : ℕ
terms_at = 544

-- 0 for at most, 1 for equal, 2 for at least
abbrev pub relations_at : ℕ
relations_at = 1312

abbrev pub bytes_size : ℕ
bytes_size = 1360

-- ---- reals: the rows' constants, the variables' old values, the objective along the places, the cutoff of near zero; the constraints' strengths, the edits' strengths and suggestions; the terms' coefficients; the constraints' constants
abbrev pub constants_at : ℕ
constants_at = 0

abbrev pub old_values_at : ℕ
old_values_at = 56

abbrev pub objective_at : ℕ
objective_at = 87

abbrev pub cutoff_at : ℕ
cutoff_at = 219

abbrev pub constraint_strengths_at : ℕ
constraint_strengths_at = 220

abbrev pub edit_strengths_at : ℕ
edit_strengths_at = 268

abbrev pub suggestions_at : ℕ
suggestions_at = 316

abbrev pub coefficients_at : ℕ
coefficients_at = 364

abbrev pub constraint_constants_at : ℕ
constraint_constants_at = 1132

abbrev pub reals_size : ℕ
reals_size = 1180
