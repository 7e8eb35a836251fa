use Rattle.sparse.specs.Tables.{lent}
use Prim.Native.Nat.{ℕ}
use mathlib.Core.Path.{◌≡◌, refl, sym, ◌∙◌}
use mathlib.Core.Bool.{Bool, true, false, ◌&&◌}
use native.Mathlib.Omega.{arith}
use Rattle.sparse.specs.Sparse.{Sparse, symbol_count, row_count, cell_count, variable_count, constraint_count, edit_count, gone_count}
use Rattle.sparse_test.specs.Tested.{owned_fit, returned_fit, reals_fit, edits_up, uses_fit, costs_fit, keys_fit, values_fit, term_count, content_fits}
use Rattle.sparse_test.specs.Open.{all-open}
use Rattle.sparse_test.proofs.content_fits.Goals as goal

module _ (t : Sparse) where
  none : {x : Bool} → x ≡ owned_fit t.bytes t.reals (symbol_count t) (variable_count t) (constraint_count t) (edit_count t) → x ≡ false → false ≡ content_fits t
  unfolding content_fits
  none e h = rw (sym e ∙ h) refl

  glue : {m : ℕ} {x x₁ x₂ x₃ x₄ x₅ x₆ x₇ : Bool}
      → x ≡ owned_fit t.bytes t.reals (symbol_count t) (variable_count t) (constraint_count t) (edit_count t)
      → x ≡ true
      → m ≡ term_count t.bytes (constraint_count t)
      → x₁ ≡ reals_fit t.reals (symbol_count t) (row_count t) (variable_count t) (constraint_count t) (edit_count t) m
      → x₂ ≡ edits_up t.words t.bytes (variable_count t) (edit_count t)
      → x₃ ≡ uses_fit t.words t.bytes (variable_count t) (edit_count t) m
      → x₄ ≡ costs_fit t.reals t.bytes (row_count t)
      → x₅ ≡ keys_fit t.keys t.bytes (cell_count t) (symbol_count t) (row_count t)
      → x₆ ≡ values_fit t.values (cell_count t)
      → x₇ ≡ returned_fit t.words t.reals (variable_count t) (gone_count t)
      → (x₁ && x₂ && x₃ && x₄ && x₅ && x₆ && x₇) ≡ content_fits t
  unfolding content_fits
  glue o h e e₁ e₂ e₃ e₄ e₅ e₆ e₇ = rw (sym o ∙ h, e₁, e₂, e₃, e₄, e₅, e₆, e₇, e) refl

pub owned_fit-requires : goal.owned_fit-requires
owned_fit-requires c = record { k_le_last_place = c.requires.symbol_count_at_bound; v_le_most_variables = c.requires.variable_count_at_bound; c_le_most_constraints = c.requires.constraint_count_at_bound; e_le_most_constraints = c.requires.edit_count_at_bound; table_value = c.fill_codes.ensures }

pub returns-then-not-owned_fit : goal.returns-then-not-owned_fit
returns-then-not-owned_fit c = none (lent c.args.tables.now) c.owned_fit.ensures.value c.if-not-owned_fit.true

pub shut_basics-costs-requires : goal.shut_basics-costs-requires
shut_basics-costs-requires c = record { r_le_most_rows = omega arith; opened = all-open (lent c.args.tables.now) (omega arith) c.owned_fit.ensures.value c.if-not-owned_fit.false c.owned_fit.ensures.table_after }

pub reals_fit-requires : goal.reals_fit-requires
reals_fit-requires c = record { k_le_last_place = c.requires.symbol_count_at_bound; r_le_most_rows = c.requires.row_count_at_bound; v_le_most_variables = c.requires.variable_count_at_bound; c_le_most_constraints = c.requires.constraint_count_at_bound; e_le_most_constraints = c.requires.edit_count_at_bound; m_le_most_terms = c.term_count-m.ensures.upper_bound c.requires.term_room_value }

pub edits_up-requires : goal.edits_up-requires
edits_up-requires c = record { v_le_most_variables = c.requires.variable_count_at_bound; e_le_most_constraints = c.requires.edit_count_at_bound; indexed = c.fill_index.ensures }

pub uses_fit-requires : goal.uses_fit-requires
uses_fit-requires c = record { v_le_most_variables = c.requires.variable_count_at_bound; e_le_most_constraints = c.requires.edit_count_at_bound; m_le_most_terms = c.term_count-m.ensures.upper_bound c.requires.term_room_value; indexed = c.fill_index.ensures }

pub keys_fit-requires : goal.keys_fit-requires
keys_fit-requires c = record { n_le_cell_room = c.requires.cell_count_at_bound; r_le_most_rows = c.requires.row_count_at_bound; opened = c.shut_basics-costs.ensures.opened_2 }

pub returned_fit-requires : goal.returned_fit-requires
returned_fit-requires c = record { v_le_most_variables = c.requires.variable_count_at_bound; g_le_most_gone = c.requires.gone_count_at_bound; ascends = c.requires.ascends }

pub values_fit-requires : goal.values_fit-requires
values_fit-requires c = c.requires.cell_count_at_bound

pub returns : goal.returns
returns c = glue (lent c.args.tables.now) c.owned_fit.ensures.value c.if-not-owned_fit.false c.term_count-m.ensures.value c.reals_fit.ensures c.edits_up.ensures c.uses_fit.ensures c.shut_basics-costs.ensures.value c.keys_fit.ensures c.values_fit.ensures c.returned_fit.ensures
