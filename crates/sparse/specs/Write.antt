-- A state written into the sparse tables. What stands past a count stays the lender's.
use Rattle.std.specs.Prelude.{ℕ, ◌+◌, false, List, [], ◌∷◌, map, eqb, length, get_or, Float}
use Rattle.std.proofs.Math.Option.{Option, none, some}
use Rattle.std.specs.Float.{nan}
use Rattle.laws.specs.Loops.{first}
use Rattle.steps.specs.Symbol.{External, Symbol}
use Rattle.steps.specs.State.{Term, exactly, Basic, Tag, Variable, Constraint, Edit, Tableau, State}
use Rattle.steps.specs.Readable.{concat, kind_code}
use Rattle.layout.specs.Layout.{bit_of, comparison_code}
use Rattle.layout.specs.cells.Cells.{Cells, cells}
use Rattle.sparse.specs.Places.{next_id_at, ids_at, variable_numbers_at, variable_uses_at, constraint_numbers_at, constraint_groups_at, gone_numbers_at, kinds_at, row_places_at, variable_places_at, changed_at, constraint_markers_at, constraint_others_at, term_counts_at, edit_variables_at, edit_markers_at, edit_others_at, terms_at, relations_at, constants_at, old_values_at, objective_at, cutoff_at, constraint_strengths_at, edit_strengths_at, suggestions_at, coefficients_at, constraint_constants_at}
use Rattle.sparse.specs.Sparse.{Sparse}
use Rattle.sparse.specs.Stretches.{Stretch, from, lay}
use Rattle.sparse.specs.Laying.{rows_laid}

-- the elements that lie past a list are nobody's
abbrev pub no_symbol : Symbol
no_symbol = record { id = 0; kind = External }

abbrev pub no_tag : Tag
no_tag = record { marker = no_symbol; other = none }

abbrev pub no_basic : Basic
no_basic = record { symbol = no_symbol; row = record { constant = nan; cells = [] } }

abbrev pub no_variable : Variable
no_variable = record { number = 0; symbol = no_symbol; old = nan; uses = 0; changed = false }

abbrev pub no_term : Term
no_term = record { variable = 0; coefficient = nan }

abbrev pub no_constraint : Constraint
no_constraint = record { number = 0; group = 0; comparison = exactly; strength = nan; constant = nan; terms = []; tag = no_tag }

abbrev pub no_edit : Edit
no_edit = record { variable = 0; strength = nan; tag = no_tag; suggestion = nan }

-- ---- a symbol is named by its place

-- the place of the symbol among the live ones, from 1; 0 is none
unfoldable pub place_of : List Symbol → Symbol → ℕ
place_of xs s = first (λ j. eqb s.id (get_or xs j no_symbol).id) (λ j. 1 + j) 0 0 (length xs)

unfoldable pub other_place : List Symbol → Option Symbol → ℕ
other_place xs none = 0
other_place xs (some s) = place_of xs s

-- which of the variables has this number; how many there are, if none has
unfoldable pub index_of : List Variable → ℕ → ℕ
index_of vs n = first (λ j. eqb n (get_or vs j no_variable).number) (λ j. j) (length vs) 0 (length vs)

-- a term or an edit names its variable by the place of the variable's symbol
unfoldable pub number_place : List Symbol → List Variable → ℕ → ℕ
number_place xs vs n = place_of xs (get_or vs (index_of vs n) no_variable).symbol

-- ---- the parts

-- the terms of all constraints, one after the other
abbrev pub all_terms : State → List Term
all_terms s = concat (map (λ (c : Constraint). c.terms) s.constraints)

abbrev pub cells_of : Tableau → List (List Float)
cells_of b = map (λ (r : Basic). r.row.cells) b.rows

-- the rows' present cells, from the tables' first place on
unfoldable pub laid_of : Tableau → Sparse → Cells
laid_of b t = rows_laid (length b.symbols) 1 (cells_of b) (cells t.keys t.values 0)

unfoldable pub heading_of : State → ℕ → List ℕ
heading_of s n =
    s.tableau.next_id ∷ length s.tableau.symbols ∷ length s.tableau.rows ∷ n ∷ length s.changes.variables ∷ length s.constraints ∷ length s.edits ∷ bit_of s.changes.should_clear ∷ bit_of s.whole ∷ length s.changes.gone ∷ []

-- with n cells
unfoldable pub words_of : State → ℕ → List (Stretch ℕ)
words_of s n =
    from gone_numbers_at s.changes.gone
    ∷ from constraint_groups_at (map (λ (c : Constraint). c.group) s.constraints)
    ∷ from constraint_numbers_at (map (λ (c : Constraint). c.number) s.constraints)
    ∷ from variable_uses_at (map (λ (v : Variable). v.uses) s.changes.variables)
    ∷ from variable_numbers_at (map (λ (v : Variable). v.number) s.changes.variables)
    ∷ from (ids_at + 1) (map (λ (x : Symbol). x.id) s.tableau.symbols)
    ∷ from next_id_at (heading_of s n)
    ∷ []

unfoldable pub bytes_of : State → List (Stretch ℕ)
bytes_of s =
    let xs : List Symbol = s.tableau.symbols in
    let vs : List Variable = s.changes.variables in
    from relations_at (map (λ (c : Constraint). comparison_code c.comparison) s.constraints)
    ∷ from terms_at (map (λ (t : Term). number_place xs vs t.variable) (all_terms s))
    ∷ from edit_others_at (map (λ (e : Edit). other_place xs e.tag.other) s.edits)
    ∷ from edit_markers_at (map (λ (e : Edit). place_of xs e.tag.marker) s.edits)
    ∷ from edit_variables_at (map (λ (e : Edit). number_place xs vs e.variable) s.edits)
    ∷ from term_counts_at (map (λ (c : Constraint). length c.terms) s.constraints)
    ∷ from constraint_others_at (map (λ (c : Constraint). other_place xs c.tag.other) s.constraints)
    ∷ from constraint_markers_at (map (λ (c : Constraint). place_of xs c.tag.marker) s.constraints)
    ∷ from changed_at (map (λ (v : Variable). bit_of v.changed) vs)
    ∷ from variable_places_at (map (λ (v : Variable). place_of xs v.symbol) vs)
    ∷ from (row_places_at + 1) (map (λ (r : Basic). place_of xs r.symbol) s.tableau.rows)
    ∷ from (kinds_at + 1) (map (λ (x : Symbol). kind_code x.kind) xs)
    ∷ []

unfoldable pub reals_of : State → List (Stretch Float)
reals_of s =
    from constraint_constants_at (map (λ (c : Constraint). c.constant) s.constraints)
    ∷ from coefficients_at (map (λ (t : Term). t.coefficient) (all_terms s))
    ∷ from suggestions_at (map (λ (e : Edit). e.suggestion) s.edits)
    ∷ from edit_strengths_at (map (λ (e : Edit). e.strength) s.edits)
    ∷ from constraint_strengths_at (map (λ (c : Constraint). c.strength) s.constraints)
    ∷ from cutoff_at (s.tableau.cutoff ∷ [])
    ∷ from (objective_at + 1) s.tableau.objective
    ∷ from old_values_at (map (λ (v : Variable). v.old) s.changes.variables)
    ∷ from (constants_at + 1) (map (λ (r : Basic). r.row.constant) s.tableau.rows)
    ∷ []

-- ---- the state

unfoldable pub write : State → Sparse → Sparse
write s t =
    record {
      words = lay (words_of s (laid_of s.tableau t).size) t.words;
      keys = (laid_of s.tableau t).keys;
      bytes = lay (bytes_of s) t.bytes;
      reals = lay (reals_of s) t.reals;
      values = (laid_of s.tableau t).vals;
    }
