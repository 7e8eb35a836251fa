-- The sparse layout: which place of which lent table holds what, and what state the tables read as.
-- "Keep each row as its present cells by ascending id": all rows' cells are one ascending list of keys with values beside them. The objective is dense: document 01 tells it apart from the rows.
-- A place past a count is neither read nor written: a table's content there is the lender's.
use Rattle.std.specs.Prelude.{ℕ, ◌+◌, cond, List, eqb, get_or, Float}
use Rattle.std.proofs.Math.Option.{Option, none, some}
use Rattle.std.specs.Float.{nan}
use Rattle.laws.specs.Loops.{first}
use Rattle.laws.specs.Lists.{tab, list_of, sum_in}
use Rattle.steps.specs.Symbol.{Symbol}
use Rattle.steps.specs.State.{Term, Basic, Variable, Constraint, Edit, State}
use Rattle.layout.specs.Layout.{kind_of, comparison_in}
use Rattle.layout.specs.cells.Cells.{row_of}
use Rattle.sparse.specs.Places.{next_id_at, symbol_count_at, row_count_at, cell_count_at, variable_count_at, constraint_count_at, edit_count_at, should_clear_at, whole_at, gone_count_at, ids_at, variable_numbers_at, variable_uses_at, constraint_numbers_at, constraint_groups_at, gone_numbers_at, kinds_at, row_places_at, variable_places_at, changed_at, constraint_markers_at, constraint_others_at, term_counts_at, edit_variables_at, edit_markers_at, edit_others_at, terms_at, relations_at, constants_at, old_values_at, objective_at, cutoff_at, constraint_strengths_at, edit_strengths_at, suggestions_at, coefficients_at, constraint_constants_at}

pub record Sparse : Type 0 where
  -- u64
  pub words : List ℕ
  -- u16, ascending: row * row_span + place
  pub keys : List ℕ
  -- u8
  pub bytes : List ℕ
  -- f64
  pub reals : List Float
  -- f64, beside the keys
  pub values : List Float

-- ---- counts

abbrev pub symbol_count : Sparse → ℕ
symbol_count t = get_or t.words symbol_count_at 0

abbrev pub row_count : Sparse → ℕ
row_count t = get_or t.words row_count_at 0

abbrev pub cell_count : Sparse → ℕ
cell_count t = get_or t.words cell_count_at 0

abbrev pub variable_count : Sparse → ℕ
variable_count t = get_or t.words variable_count_at 0

abbrev pub constraint_count : Sparse → ℕ
constraint_count t = get_or t.words constraint_count_at 0

abbrev pub edit_count : Sparse → ℕ
edit_count t = get_or t.words edit_count_at 0

abbrev pub gone_count : Sparse → ℕ
gone_count t = get_or t.words gone_count_at 0

-- ---- symbols by place

unfoldable pub symbol_at : Sparse → ℕ → Symbol
symbol_at t p = record { id = get_or t.words (ids_at + p) 0; kind = kind_of (get_or t.bytes (kinds_at + p) 0) }

-- 0 is no symbol
unfoldable pub other_at : Sparse → ℕ → Option Symbol
other_at t p = cond (eqb p 0) none (some (symbol_at t p))

-- the number of the variable whose symbol stands at place p
unfoldable pub number_at : Sparse → ℕ → ℕ
number_at t p = first (λ v. eqb p (get_or t.bytes (variable_places_at + v) 0)) (λ v. get_or t.words (variable_numbers_at + v) 0) 0 0 (variable_count t)

-- ---- the state that tables read as

unfoldable pub variable_of : Sparse → ℕ → Variable
variable_of t i =
    record {
      number = get_or t.words (variable_numbers_at + i) 0;
      symbol = symbol_at t (get_or t.bytes (variable_places_at + i) 0);
      old = get_or t.reals (old_values_at + i) nan;
      uses = get_or t.words (variable_uses_at + i) 0;
      changed = eqb (get_or t.bytes (changed_at + i) 0) 1;
    }

-- the terms of all constraints stand one after the other: those of constraint i come after those of the ones before it
unfoldable pub terms_from : Sparse → ℕ → ℕ
terms_from t i = sum_in (λ c. get_or t.bytes (term_counts_at + c) 0) 0 i

unfoldable pub term_of : Sparse → ℕ → ℕ → Term
term_of t from j = record { variable = number_at t (get_or t.bytes (terms_at + (from + j)) 0); coefficient = get_or t.reals (coefficients_at + (from + j)) nan }

unfoldable pub constraint_of : Sparse → ℕ → Constraint
constraint_of t i =
    record {
      number = get_or t.words (constraint_numbers_at + i) 0;
      group = get_or t.words (constraint_groups_at + i) 0;
      comparison = comparison_in (get_or t.bytes (relations_at + i) 0);
      strength = get_or t.reals (constraint_strengths_at + i) nan;
      constant = get_or t.reals (constraint_constants_at + i) nan;
      terms = list_of (get_or t.bytes (term_counts_at + i) 0) (term_of t (terms_from t i));
      tag = record { marker = symbol_at t (get_or t.bytes (constraint_markers_at + i) 0); other = other_at t (get_or t.bytes (constraint_others_at + i) 0) };
    }

unfoldable pub edit_of : Sparse → ℕ → Edit
edit_of t i =
    record {
      variable = number_at t (get_or t.bytes (edit_variables_at + i) 0);
      strength = get_or t.reals (edit_strengths_at + i) nan;
      tag = record { marker = symbol_at t (get_or t.bytes (edit_markers_at + i) 0); other = other_at t (get_or t.bytes (edit_others_at + i) 0) };
      suggestion = get_or t.reals (suggestions_at + i) nan;
    }

-- row i, from 1: its constant, and the dense row of its run
unfoldable pub basic_of : Sparse → ℕ → Basic
basic_of t i =
    record {
      symbol = symbol_at t (get_or t.bytes (row_places_at + i) 0);
      row = record { constant = get_or t.reals (constants_at + i) nan; cells = row_of t.keys t.values (cell_count t) (symbol_count t) i };
    }

unfoldable pub symbols_of : Sparse → List Symbol
symbols_of t = tab (symbol_at t) 1 (symbol_count t)

unfoldable pub basics_of : Sparse → List Basic
basics_of t = tab (basic_of t) 1 (row_count t)

unfoldable pub objective_of : Sparse → List Float
objective_of t = tab (λ p. get_or t.reals (objective_at + p) nan) 1 (symbol_count t)

-- the numbers that the next fetch lists as gone
unfoldable pub gone_of : Sparse → List ℕ
gone_of t = list_of (gone_count t) λ j. get_or t.words (gone_numbers_at + j) 0

unfoldable pub read : Sparse → State
read t =
    record {
      tableau = record { cutoff = get_or t.reals cutoff_at nan; symbols = symbols_of t; next_id = get_or t.words next_id_at 0; rows = basics_of t; objective = objective_of t };
      changes = record { variables = list_of (variable_count t) (variable_of t); gone = gone_of t; should_clear = eqb (get_or t.words should_clear_at 0) 1 };
      constraints = list_of (constraint_count t) (constraint_of t);
      edits = list_of (edit_count t) (edit_of t);
      whole = eqb (get_or t.words whole_at 0) 1;
    }
