-- The parts of the test that the code runs.
-- Assumes nothing.
use Rattle.std.specs.Prelude.{◌+◌, ◌≡◌, true, get_or}
use Rattle.std.specs.Float.{nan}
use Rattle.layout.specs.Rooms.{both}
use Rattle.steps.specs.Number.{cutoff_fits}
use Rattle.layout.specs.Layout.{term_room}
use Rattle.rows.specs.places.Listed.{join}
use Rattle.rows.specs.places.Shares.{finite_in}
use Rattle.sparse.specs.Places.{next_id_at, ids_at, variable_numbers_at, constraint_numbers_at, constraint_groups_at, gone_numbers_at, kinds_at, row_places_at, changed_at, constraint_markers_at, constraint_others_at, term_counts_at, edit_markers_at, edit_others_at, relations_at, constants_at, objective_at, cutoff_at, constraint_strengths_at, edit_strengths_at, suggestions_at, coefficients_at, constraint_constants_at}
use Rattle.sparse.specs.Sparse.{Sparse, symbol_count, row_count, cell_count, variable_count, constraint_count, edit_count, gone_count, terms_from}
use Rattle.sparse_test.specs.Stretch.{ascend_in, between_in, up_in, most_in, above_zero_in, between-most, most-between}
use Rattle.sparse_test.specs.Reads.{greatest_u32}
use Rattle.sparse_test.specs.Meaning.{Counted, counted, recounted}
use Rattle.sparse_test.specs.Owners.{Once}
use Rattle.sparse_test.specs.Kept.{Kept, fit-kept, kept-fit}
use Rattle.sparse_test.specs.Tested.{words_fit, bytes_fit, externals_in, tags_fit, markers_fit, errors_in, olds_fit, returned_fit, reals_fit, edits_up, uses_fit, costs_fit, keys_fit, values_fit, term_count, content_fits, tested}

pub record Parts (t : Sparse) : Type 0 where
  pub counts : Counted t
  pub ids_up : ascend_in t.words (ids_at + 1) (symbol_count t) ≡ true
  pub ids : between_in t.words (ids_at + 1) (symbol_count t) 1 (get_or t.words next_id_at 0) ≡ true
  pub numbers_up : ascend_in t.words variable_numbers_at (variable_count t) ≡ true
  pub numbers : most_in t.words variable_numbers_at (variable_count t) greatest_u32 ≡ true
  pub constraints_up : ascend_in t.words constraint_numbers_at (constraint_count t) ≡ true
  pub constraints : most_in t.words constraint_numbers_at (constraint_count t) greatest_u32 ≡ true
  pub groups : above_zero_in t.words constraint_groups_at (constraint_count t) ≡ true
  pub gone_up : ascend_in t.words gone_numbers_at (gone_count t) ≡ true
  pub gone : most_in t.words gone_numbers_at (gone_count t) greatest_u32 ≡ true
  pub kinds : most_in t.bytes (kinds_at + 1) (symbol_count t) 3 ≡ true
  pub changed : most_in t.bytes changed_at (variable_count t) 1 ≡ true
  pub term_counts : most_in t.bytes term_counts_at (constraint_count t) term_room ≡ true
  pub rows_up : ascend_in t.bytes (row_places_at + 1) (row_count t) ≡ true
  pub rows : between_in t.bytes (row_places_at + 1) (row_count t) 1 (symbol_count t + 1) ≡ true
  pub relations : most_in t.bytes relations_at (constraint_count t) 2 ≡ true
  pub owned : Once t
  pub externals : externals_in t.bytes (variable_count t) ≡ true
  pub tags : tags_fit t.bytes t.reals constraint_strengths_at constraint_markers_at constraint_others_at (constraint_count t) ≡ true
  pub markers : markers_fit t.bytes (constraint_count t) ≡ true
  pub errors : errors_in t.bytes (edit_count t) ≡ true
  pub edit_tags : tags_fit t.bytes t.reals edit_strengths_at edit_markers_at edit_others_at (edit_count t) ≡ true
  pub constants : finite_in t.reals (constants_at + 1) (row_count t) ≡ true
  pub olds : olds_fit t.reals (variable_count t) ≡ true
  pub objective : finite_in t.reals (objective_at + 1) (symbol_count t) ≡ true
  pub strengths : finite_in t.reals constraint_strengths_at (constraint_count t) ≡ true
  pub edit_strengths : finite_in t.reals edit_strengths_at (edit_count t) ≡ true
  pub suggestions : finite_in t.reals suggestions_at (edit_count t) ≡ true
  pub coefficients : finite_in t.reals coefficients_at (terms_from t (constraint_count t)) ≡ true
  pub own_constants : finite_in t.reals constraint_constants_at (constraint_count t) ≡ true
  pub cutoff : cutoff_fits (get_or t.reals cutoff_at nan) ≡ true
  pub edits : edits_up t.words t.bytes (variable_count t) (edit_count t) ≡ true
  pub uses : uses_fit t.words t.bytes (variable_count t) (edit_count t) (term_count t.bytes (constraint_count t)) ≡ true
  pub costs : costs_fit t.reals t.bytes (row_count t) ≡ true
  pub keys : keys_fit t.keys t.bytes (cell_count t) (symbol_count t) (row_count t) ≡ true
  pub values : values_fit t.values (cell_count t) ≡ true
  pub returned : returned_fit t.words t.reals (variable_count t) (gone_count t) ≡ true

pub parts : (t : Sparse) → tested t ≡ true → Parts t
unfolding tested words_fit bytes_fit up_in content_fits reals_fit term_count terms_from
parts t q =
    let a = both _ _ q in
    let b = both _ _ a.1 in
    let c = both _ _ b.1 in
    let w₁ = both _ _ b.0 in
    let w₂ = both _ _ w₁.0 in
    let w₃ = both _ _ w₂.0 in
    let w₄ = both _ _ w₃.0 in
    let i₁ = both _ _ w₄.0 in
    let i₂ = both _ _ w₄.1 in
    let i₃ = both _ _ w₃.1 in
    let i₄ = both _ _ w₁.1 in
    let b₀ = both _ _ c.0 in
    let i₅ = both _ _ b₀.1 in
    let d = both _ _ c.1 in
    let o : Kept t = fit-kept t (counted t a.0).symbols d.0 in
    let c₀ = both _ _ d.1 in
    let c₁ = both _ _ c₀.0 in
    let c₂ = both _ _ c₁.0 in
    let c₃ = both _ _ c₂.0 in
    let c₄ = both _ _ c₃.0 in
    let c₅ = both _ _ c₄.0 in
    let r₁ = both _ _ c₅.0 in
    let r₂ = both _ _ r₁.0 in
    let r₃ = both _ _ r₂.0 in
    let r₄ = both _ _ r₃.0 in
    let r₅ = both _ _ r₄.0 in
    let r₆ = both _ _ r₅.0 in
    let r₇ = both _ _ r₆.0 in
    let r₈ = both _ _ r₇.0 in
    record {
      counts = counted t a.0;
      ids_up = i₁.0;
      ids = i₁.1;
      numbers_up = i₂.0;
      numbers = between-most _ _ _ greatest_u32 i₂.1;
      constraints_up = i₃.0;
      constraints = between-most _ _ _ greatest_u32 i₃.1;
      groups = w₂.1;
      gone_up = i₄.0;
      gone = between-most _ _ _ greatest_u32 i₄.1;
      kinds = o.kinds;
      changed = o.changed;
      term_counts = b₀.0;
      rows_up = i₅.0;
      rows = i₅.1;
      relations = o.relations;
      owned = o.once;
      externals = o.externals;
      tags = o.tags;
      markers = o.markers;
      errors = o.errors;
      edit_tags = o.edit_tags;
      constants = r₈.0;
      olds = r₈.1;
      objective = r₇.1;
      strengths = r₆.1;
      edit_strengths = r₅.1;
      suggestions = r₄.1;
      coefficients = r₃.1;
      own_constants = r₂.1;
      cutoff = r₁.1;
      edits = c₅.1;
      uses = c₄.1;
      costs = c₃.1;
      keys = c₂.1;
      values = c₁.1;
      returned = c₀.1;
    }

pub joined : (t : Sparse) → Parts t → tested t ≡ true
unfolding tested words_fit bytes_fit up_in content_fits reals_fit term_count terms_from
joined t p =
    join (recounted t p.counts)
    (join (join (join (join (join (join p.ids_up p.ids) (join p.numbers_up (most-between _ _ _ greatest_u32 p.numbers))) (join p.constraints_up (most-between _ _ _ greatest_u32 p.constraints))) p.groups) (join p.gone_up (most-between _ _ _ greatest_u32 p.gone)))
    (join (join p.term_counts (join p.rows_up p.rows))
    (join (kept-fit t (record { once = p.owned; kinds = p.kinds; changed = p.changed; relations = p.relations; externals = p.externals; tags = p.tags; markers = p.markers; errors = p.errors; edit_tags = p.edit_tags }) p.counts.symbols)
    (join (join (join (join (join (join
    (join (join (join (join (join (join (join (join p.constants p.olds) p.objective) p.strengths) p.edit_strengths) p.suggestions) p.coefficients) p.own_constants) p.cutoff)
    p.edits) p.uses) p.costs) p.keys) p.values) p.returned))))
