-- Each element of a state that was written stands at its place of the tables.
-- Assumes nothing.
use Rattle.std.specs.Prelude.{ℕ, ◌+◌, ◌<◌, ◌≡◌, List, [], map, get_or}
use Rattle.std.proofs.Common.{ap, ◌∙◌, zero-add}
use native.Mathlib.Omega.{arith}
use Rattle.std.specs.Float.Ieee.{nan}
use Rattle.std.proofs.Math.ListN.{length, length-map}
use Rattle.steps.specs.Symbol.{Symbol}
use Rattle.steps.specs.State.{Term, Basic, Variable, Constraint, Edit, State}
use Rattle.steps.specs.Readable.{kind_code}
use Rattle.layout.specs.Layout.{bit_of, comparison_in, comparison_code}
use Rattle.layout.specs.Laying.{get_d_map}
use Rattle.layout.proofs.Back.{comparison-back}
use Rattle.sparse.specs.Places.{ids_at, variable_numbers_at, variable_uses_at, constraint_numbers_at, constraint_groups_at, gone_numbers_at, kinds_at, row_places_at, variable_places_at, changed_at, constraint_markers_at, constraint_others_at, term_counts_at, edit_variables_at, edit_markers_at, edit_others_at, terms_at, relations_at, constants_at, old_values_at, objective_at, cutoff_at, constraint_strengths_at, edit_strengths_at, suggestions_at, coefficients_at, constraint_constants_at, words_size, bytes_size, reals_size}
use Rattle.sparse.specs.Sparse.{Sparse}
use Rattle.sparse.specs.Stretches.{Within, lay-in}
use Rattle.sparse.specs.Write.{no_symbol, no_basic, no_variable, no_term, no_constraint, no_edit, place_of, other_place, number_place, all_terms, laid_of, heading_of, words_of, bytes_of, reals_of, write}
use Rattle.sparse.specs.Fits.{Lengths, Fits}

-- what stands where a mapped list was laid
through : {A B : Type 0} (f : B → A) (l : List B) (j : ℕ) (d : A) (e : B) {x : A} → j < length l → (j < length (map f l) → x ≡ get_or (map f l) j d) → x ≡ f (get_or l j e)
through f l j d e h g = g (omega (arith, h, length-map l f)) ∙ get_d_map f l j e d h

module _ (s : State) (t : Sparse) (fits : Fits s) (len : Lengths t) where
  abbrev t' : Sparse
  t' = write s t

  abbrev xs : List Symbol
  xs = s.tableau.symbols

  abbrev vs : List Variable
  vs = s.changes.variables

  abbrev size : ℕ
  size = (laid_of s.tableau t).size

  -- ---- each stretch lies within its room

  within-words : Within words_size (words_of s size)
  unfolding words_of heading_of
  within-words =
      let v = fits.variables in
      let c = fits.constraints in
      let k = fits.symbols in
      let a = length-map s.constraints (λ (c : Constraint). c.number) in
      let b = length-map vs (λ (v : Variable). v.uses) in
      let d = length-map vs (λ (v : Variable). v.number) in
      let e = length-map xs (λ (x : Symbol). x.id) in
      let g = length-map s.constraints (λ (c : Constraint). c.group) in
      let n = fits.gone in
      (omega (arith, n), (omega (arith, g, c), (omega (arith, a, c), (omega (arith, b, v), (omega (arith, d, v), (omega (arith, e, k), (omega arith, tt)))))))

  within-bytes : Within bytes_size (bytes_of s)
  unfolding bytes_of
  within-bytes =
      let v = fits.variables in
      let c = fits.constraints in
      let e = fits.edits in
      let k = fits.symbols in
      let r = fits.rows in
      let m = fits.terms in
      let l₁ = length-map (all_terms s) (λ (t : Term). number_place xs vs t.variable) in
      let l₂ = length-map s.edits (λ (e : Edit). other_place xs e.tag.other) in
      let l₃ = length-map s.edits (λ (e : Edit). place_of xs e.tag.marker) in
      let l₄ = length-map s.edits (λ (e : Edit). number_place xs vs e.variable) in
      let l₅ = length-map s.constraints (λ (c : Constraint). length c.terms) in
      let l₆ = length-map s.constraints (λ (c : Constraint). other_place xs c.tag.other) in
      let l₇ = length-map s.constraints (λ (c : Constraint). place_of xs c.tag.marker) in
      let l₈ = length-map vs (λ (v : Variable). bit_of v.changed) in
      let l₉ = length-map vs (λ (v : Variable). place_of xs v.symbol) in
      let l₁₀ = length-map s.tableau.rows (λ (r : Basic). place_of xs r.symbol) in
      let l₁₁ = length-map xs (λ (x : Symbol). kind_code x.kind) in
      let l₁₂ = length-map s.constraints (λ (c : Constraint). comparison_code c.comparison) in
      (omega (arith, l₁₂, c), (omega (arith, l₁, m), (omega (arith, l₂, e), (omega (arith, l₃, e), (omega (arith, l₄, e), (omega (arith, l₅, c), (omega (arith, l₆, c), (omega (arith, l₇, c), (omega (arith, l₈, v), (omega (arith, l₉, v), (omega (arith, l₁₀, r), (omega (arith, l₁₁, k), tt))))))))))))

  within-reals : Within reals_size (reals_of s)
  unfolding reals_of
  within-reals =
      let v = fits.variables in
      let c = fits.constraints in
      let e = fits.edits in
      let k = fits.symbols in
      let r = fits.rows in
      let m = fits.terms in
      let o = fits.objective in
      let l₁ = length-map (all_terms s) (λ (t : Term). t.coefficient) in
      let l₂ = length-map s.edits (λ (e : Edit). e.suggestion) in
      let l₃ = length-map s.edits (λ (e : Edit). e.strength) in
      let l₄ = length-map s.constraints (λ (c : Constraint). c.strength) in
      let l₆ = length-map vs (λ (v : Variable). v.old) in
      let l₇ = length-map s.tableau.rows (λ (r : Basic). r.row.constant) in
      let l₈ = length-map s.constraints (λ (c : Constraint). c.constant) in
      (omega (arith, l₈, c), (omega (arith, l₁, m), (omega (arith, l₂, e), (omega (arith, l₃, e), (omega (arith, l₄, c), (omega arith, (omega (arith, o, k), (omega (arith, l₆, v), (omega (arith, l₇, r), tt)))))))))

  -- ---- each element

  word : (i j : ℕ) → i < 7 → j < length (get_or (words_of s size) i (record { at = 0; list = [] })).list → get_or t'.words ((get_or (words_of s size) i (record { at = 0; list = [] })).at + j) 0 ≡ get_or (get_or (words_of s size) i (record { at = 0; list = [] })).list j 0
  unfolding write words_of
  word i j h k = lay-in words_size (words_of s size) t.words within-words (omega (arith, len.0)) i j 0 h k

  byte : (i j : ℕ) → i < 12 → j < length (get_or (bytes_of s) i (record { at = 0; list = [] })).list → get_or t'.bytes ((get_or (bytes_of s) i (record { at = 0; list = [] })).at + j) 0 ≡ get_or (get_or (bytes_of s) i (record { at = 0; list = [] })).list j 0
  unfolding write bytes_of
  byte i j h k = lay-in bytes_size (bytes_of s) t.bytes within-bytes (omega (arith, len.2)) i j 0 h k

  real : (i j : ℕ) → i < 9 → j < length (get_or (reals_of s) i (record { at = 0; list = [] })).list → get_or t'.reals ((get_or (reals_of s) i (record { at = 0; list = [] })).at + j) nan ≡ get_or (get_or (reals_of s) i (record { at = 0; list = [] })).list j nan
  unfolding write reals_of
  real i j h k = lay-in reals_size (reals_of s) t.reals within-reals (omega (arith, len.3)) i j nan h k

  pub heading-back : (j : ℕ) → j < 10 → get_or t'.words j 0 ≡ get_or (heading_of s size) j 0
  unfolding words_of heading_of
  heading-back j h = rw (zero-add j) at (word 6 j (omega arith) h)

  pub id-back : (j : ℕ) → j < length xs → get_or t'.words (ids_at + 1 + j) 0 ≡ (get_or xs j no_symbol).id
  unfolding words_of
  id-back j h = through (λ (x : Symbol). x.id) xs j 0 no_symbol h (word 5 j (omega arith))

  pub number-back : (j : ℕ) → j < length vs → get_or t'.words (variable_numbers_at + j) 0 ≡ (get_or vs j no_variable).number
  unfolding words_of
  number-back j h = through (λ (v : Variable). v.number) vs j 0 no_variable h (word 4 j (omega arith))

  pub uses-back : (j : ℕ) → j < length vs → get_or t'.words (variable_uses_at + j) 0 ≡ (get_or vs j no_variable).uses
  unfolding words_of
  uses-back j h = through (λ (v : Variable). v.uses) vs j 0 no_variable h (word 3 j (omega arith))

  pub constraint-number : (j : ℕ) → j < length s.constraints → get_or t'.words (constraint_numbers_at + j) 0 ≡ (get_or s.constraints j no_constraint).number
  unfolding words_of
  constraint-number j h = through (λ (c : Constraint). c.number) s.constraints j 0 no_constraint h (word 2 j (omega arith))

  pub group-back : (j : ℕ) → j < length s.constraints → get_or t'.words (constraint_groups_at + j) 0 ≡ (get_or s.constraints j no_constraint).group
  unfolding words_of
  group-back j h = through (λ (c : Constraint). c.group) s.constraints j 0 no_constraint h (word 1 j (omega arith))

  pub gone-back : (j : ℕ) → j < length s.changes.gone → get_or t'.words (gone_numbers_at + j) 0 ≡ get_or s.changes.gone j 0
  unfolding words_of
  gone-back j h = word 0 j (omega arith) h

  pub kind-laid : (j : ℕ) → j < length xs → get_or t'.bytes (kinds_at + 1 + j) 0 ≡ kind_code (get_or xs j no_symbol).kind
  unfolding bytes_of
  kind-laid j h = through (λ (x : Symbol). kind_code x.kind) xs j 0 no_symbol h (byte 11 j (omega arith))

  pub row-place : (j : ℕ) → j < length s.tableau.rows → get_or t'.bytes (row_places_at + 1 + j) 0 ≡ place_of xs (get_or s.tableau.rows j no_basic).symbol
  unfolding bytes_of
  row-place j h = through (λ (r : Basic). place_of xs r.symbol) s.tableau.rows j 0 no_basic h (byte 10 j (omega arith))

  pub variable-place : (j : ℕ) → j < length vs → get_or t'.bytes (variable_places_at + j) 0 ≡ place_of xs (get_or vs j no_variable).symbol
  unfolding bytes_of
  variable-place j h = through (λ (v : Variable). place_of xs v.symbol) vs j 0 no_variable h (byte 9 j (omega arith))

  pub changed-back : (j : ℕ) → j < length vs → get_or t'.bytes (changed_at + j) 0 ≡ bit_of (get_or vs j no_variable).changed
  unfolding bytes_of
  changed-back j h = through (λ (v : Variable). bit_of v.changed) vs j 0 no_variable h (byte 8 j (omega arith))

  pub marker-place : (j : ℕ) → j < length s.constraints → get_or t'.bytes (constraint_markers_at + j) 0 ≡ place_of xs (get_or s.constraints j no_constraint).tag.marker
  unfolding bytes_of
  marker-place j h = through (λ (c : Constraint). place_of xs c.tag.marker) s.constraints j 0 no_constraint h (byte 7 j (omega arith))

  pub other_place_lem : (j : ℕ) → j < length s.constraints → get_or t'.bytes (constraint_others_at + j) 0 ≡ other_place xs (get_or s.constraints j no_constraint).tag.other
  unfolding bytes_of
  other_place_lem j h = through (λ (c : Constraint). other_place xs c.tag.other) s.constraints j 0 no_constraint h (byte 6 j (omega arith))

  pub count-back : (j : ℕ) → j < length s.constraints → get_or t'.bytes (term_counts_at + j) 0 ≡ length (get_or s.constraints j no_constraint).terms
  unfolding bytes_of
  count-back j h = through (λ (c : Constraint). length c.terms) s.constraints j 0 no_constraint h (byte 5 j (omega arith))

  pub edit-variable : (j : ℕ) → j < length s.edits → get_or t'.bytes (edit_variables_at + j) 0 ≡ number_place xs vs (get_or s.edits j no_edit).variable
  unfolding bytes_of
  edit-variable j h = through (λ (e : Edit). number_place xs vs e.variable) s.edits j 0 no_edit h (byte 4 j (omega arith))

  pub plus-place : (j : ℕ) → j < length s.edits → get_or t'.bytes (edit_markers_at + j) 0 ≡ place_of xs (get_or s.edits j no_edit).tag.marker
  unfolding bytes_of
  plus-place j h = through (λ (e : Edit). place_of xs e.tag.marker) s.edits j 0 no_edit h (byte 3 j (omega arith))

  pub minus-place : (j : ℕ) → j < length s.edits → get_or t'.bytes (edit_others_at + j) 0 ≡ other_place xs (get_or s.edits j no_edit).tag.other
  unfolding bytes_of
  minus-place j h = through (λ (e : Edit). other_place xs e.tag.other) s.edits j 0 no_edit h (byte 2 j (omega arith))

  pub term-place : (j : ℕ) → j < length (all_terms s) → get_or t'.bytes (terms_at + j) 0 ≡ number_place xs vs (get_or (all_terms s) j no_term).variable
  unfolding bytes_of
  term-place j h = through (λ (t : Term). number_place xs vs t.variable) (all_terms s) j 0 no_term h (byte 1 j (omega arith))

  pub constant-back : (j : ℕ) → j < length s.tableau.rows → get_or t'.reals (constants_at + 1 + j) nan ≡ (get_or s.tableau.rows j no_basic).row.constant
  unfolding reals_of
  constant-back j h = through (λ (r : Basic). r.row.constant) s.tableau.rows j nan no_basic h (real 8 j (omega arith))

  pub old-back : (j : ℕ) → j < length vs → get_or t'.reals (old_values_at + j) nan ≡ (get_or vs j no_variable).old
  unfolding reals_of
  old-back j h = through (λ (v : Variable). v.old) vs j nan no_variable h (real 7 j (omega arith))

  pub cost-back : (j : ℕ) → j < length s.tableau.objective → get_or t'.reals (objective_at + 1 + j) nan ≡ get_or s.tableau.objective j nan
  unfolding reals_of
  cost-back j h = real 6 j (omega arith) h

  pub cutoff-back : get_or t'.reals cutoff_at nan ≡ s.tableau.cutoff
  unfolding reals_of
  cutoff-back = real 5 0 (omega arith) (omega arith)

  pub strength-back : (j : ℕ) → j < length s.constraints → get_or t'.reals (constraint_strengths_at + j) nan ≡ (get_or s.constraints j no_constraint).strength
  unfolding reals_of
  strength-back j h = through (λ (c : Constraint). c.strength) s.constraints j nan no_constraint h (real 4 j (omega arith))

  pub edit-strength : (j : ℕ) → j < length s.edits → get_or t'.reals (edit_strengths_at + j) nan ≡ (get_or s.edits j no_edit).strength
  unfolding reals_of
  edit-strength j h = through (λ (e : Edit). e.strength) s.edits j nan no_edit h (real 3 j (omega arith))

  pub suggestion-back : (j : ℕ) → j < length s.edits → get_or t'.reals (suggestions_at + j) nan ≡ (get_or s.edits j no_edit).suggestion
  unfolding reals_of
  suggestion-back j h = through (λ (e : Edit). e.suggestion) s.edits j nan no_edit h (real 2 j (omega arith))

  pub coefficient-back : (j : ℕ) → j < length (all_terms s) → get_or t'.reals (coefficients_at + j) nan ≡ (get_or (all_terms s) j no_term).coefficient
  unfolding reals_of
  coefficient-back j h = through (λ (t : Term). t.coefficient) (all_terms s) j nan no_term h (real 1 j (omega arith))

  pub relation-laid : (j : ℕ) → j < length s.constraints → get_or t'.bytes (relations_at + j) 0 ≡ comparison_code (get_or s.constraints j no_constraint).comparison
  unfolding bytes_of
  relation-laid j h = through (λ (c : Constraint). comparison_code c.comparison) s.constraints j 0 no_constraint h (byte 0 j (omega arith))

  pub comparison-laid : (j : ℕ) → j < length s.constraints → comparison_in (get_or t'.bytes (relations_at + j) 0) ≡ (get_or s.constraints j no_constraint).comparison
  comparison-laid j h = ap comparison_in (relation-laid j h) ∙ comparison-back (get_or s.constraints j no_constraint).comparison

  pub own-constant : (j : ℕ) → j < length s.constraints → get_or t'.reals (constraint_constants_at + j) nan ≡ (get_or s.constraints j no_constraint).constant
  unfolding reals_of
  own-constant j h = through (λ (c : Constraint). c.constant) s.constraints j nan no_constraint h (real 0 j (omega arith))
