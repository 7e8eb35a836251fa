-- The layout: which place of which lent table holds what, what state the tables read as, and a state written into them.
-- A place past a count is neither read nor written: a table's content there is the lender's.
use Rattle.std.specs.Prelude.{ℕ, ◌+◌, ◌/◌, ◌%◌, Bool, cond, List, [], ◌∷◌, map, eqb, length, get_or, Float}
use Rattle.std.proofs.Math.Option.{Option, none, some}
use Rattle.std.specs.Float.{nan}
use Rattle.steps.specs.Number.{usual_cutoff}
use Rattle.steps.specs.Symbol.{Kind, External, Slack, Error, Dummy, Symbol}
use Rattle.steps.specs.State.{Term, Comparison, no_more, exactly, no_less, Basic, Tag, Variable, Constraint, Edit, State}
use Rattle.steps.specs.Readable.{code}
use Rattle.laws.specs.Lists.{list_of, laid}

-- ---- the tables

pub record Tables : Type 0 where
  -- the next id, five counts and two flags; then the symbols and the rows' symbols; places 3 and 9 to 15 hold nothing
  pub head : List ℕ
  -- rows of 21, an item each: the variables (number, symbol, uses, changed), the constraints (number, marker, other, count of terms, which relation, the terms' variables), the edits (variable, marker, other)
  pub names : List (List ℕ)
  -- rows of 18, item by item with `names`: a variable's old value; a constraint's strength, its constant and its terms' coefficients; an edit's strength and suggestion
  pub reals : List (List Float)
  -- rows of 130: the objective (its place 0 is free), then the rows, each its constant and then the cells along the symbols
  pub rows : List (List Float)

abbrev pub tables : List ℕ → List (List ℕ) → List (List Float) → List (List Float) → Tables
tables h n r w = record { head = h; names = n; reals = r; rows = w }

-- ---- lengths of the tables

abbrev pub head_size : ℕ
head_size = 196

-- "16 terms in a constraint"
abbrev pub term_room : ℕ
term_room = 16

abbrev pub items_size : ℕ
items_size = 128

abbrev pub rows_size : ℕ
rows_size = 51

-- ---- places of the head: room for 130 symbols, 50 rows

abbrev pub symbols_at : ℕ
symbols_at = 16

abbrev pub rows_at : ℕ
rows_at = 146

abbrev pub next_id_of : List ℕ → ℕ
next_id_of h = get_or h 0 0

abbrev pub symbol_count : List ℕ → ℕ
symbol_count h = get_or h 1 0

abbrev pub row_count : List ℕ → ℕ
row_count h = get_or h 2 0

-- the end of these three; where the records' counts and the flags begin, and their end
abbrev pub heading_end : ℕ
heading_end = 3

abbrev pub record_counts_at : ℕ
record_counts_at = 4

abbrev pub record_counts_end : ℕ
record_counts_end = 9

abbrev pub variable_count : List ℕ → ℕ
variable_count h = get_or h 4 0

abbrev pub constraint_count : List ℕ → ℕ
constraint_count h = get_or h 5 0

abbrev pub edit_count : List ℕ → ℕ
edit_count h = get_or h 6 0

abbrev pub clear_flag : List ℕ → ℕ
clear_flag h = get_or h 7 0

abbrev pub whole_flag : List ℕ → ℕ
whole_flag h = get_or h 8 0

-- ---- places of the items: 32 variables, 48 constraints, 48 edits

abbrev pub constraints_at : ℕ
constraints_at = 32

abbrev pub edits_at : ℕ
edits_at = 80

-- in a row of names: a constraint's or an edit's other symbol stands where a variable's uses do, its count of terms where a variable's changed flag does
abbrev pub number_of : List ℕ → ℕ
number_of n = get_or n 0 0

abbrev pub symbol_code : List ℕ → ℕ
symbol_code n = get_or n 1 0

abbrev pub uses_of : List ℕ → ℕ
uses_of n = get_or n 2 0

abbrev pub changed_flag : List ℕ → ℕ
changed_flag n = get_or n 3 0

abbrev pub other_symbol : List ℕ → ℕ
other_symbol n = get_or n 2 0

abbrev pub term_count : List ℕ → ℕ
term_count n = get_or n 3 0

abbrev pub relation_kind : List ℕ → ℕ
relation_kind n = get_or n 4 0

abbrev pub terms_at : ℕ
terms_at = 5

-- in a row of reals: a constraint's constant stands where an edit's suggestion does
abbrev pub old_value : List Float → Float
old_value r = get_or r 0 nan

abbrev pub strength_in : List Float → Float
strength_in r = get_or r 0 nan

abbrev pub suggestion_in : List Float → Float
suggestion_in r = get_or r 1 nan

abbrev pub constant_in : List Float → Float
constant_in r = get_or r 1 nan

abbrev pub coefficients_at : ℕ
coefficients_at = 2

-- in a row of rows, and in the table of them
abbrev pub cells_at : ℕ
cells_at = 1

abbrev pub basics_at : ℕ
basics_at = 1

-- ---- a symbol is one number, its id times 4 and its kind: ascending symbols are ascending ids, and a symbol's kind goes where it goes

unfoldable pub kind_of : ℕ → Kind
kind_of k = cond (eqb k 2) Error (cond (eqb k 1) Slack (cond (eqb k 3) Dummy External))

unfoldable pub symbol_of : ℕ → Symbol
symbol_of c = record { id = c / 4; kind = kind_of (c % 4) }

-- 0 is no symbol
unfoldable pub other_of : ℕ → Option Symbol
other_of c = cond (eqb c 0) none (some (symbol_of c))

unfoldable pub other_code : Option Symbol → ℕ
other_code none = 0
other_code (some s) = code s

unfoldable pub bit_of : Bool → ℕ
bit_of b = cond b 1 0

-- which of the three relations: 0 for at most, 1 for equal, 2 for at least
unfoldable pub comparison_in : ℕ → Comparison
comparison_in k = cond (eqb k 0) no_more (cond (eqb k 1) exactly no_less)

unfoldable pub comparison_code : Comparison → ℕ
comparison_code no_more = 0
comparison_code exactly = 1
comparison_code no_less = 2

-- ---- the state that tables read as

unfoldable pub variable_of : List ℕ → List Float → Variable
variable_of n r = record { number = number_of n; symbol = symbol_of (symbol_code n); old = old_value r; uses = uses_of n; changed = eqb (changed_flag n) 1 }

unfoldable pub tag_of : List ℕ → Tag
tag_of n = record { marker = symbol_of (symbol_code n); other = other_of (other_symbol n) }

unfoldable pub term_of : List ℕ → List Float → ℕ → Term
term_of n r j = record { variable = get_or n (terms_at + j) 0; coefficient = get_or r (coefficients_at + j) nan }

-- these tables are older than groups and have no place for one: their constraints are in group 1
unfoldable pub constraint_of : List ℕ → List Float → Constraint
constraint_of n r =
    record {
      number = number_of n;
      group = 1;
      comparison = comparison_in (relation_kind n);
      strength = strength_in r;
      constant = constant_in r;
      terms = list_of (term_count n) (term_of n r);
      tag = tag_of n;
    }

unfoldable pub edit_of : List ℕ → List Float → Edit
edit_of n r = record { variable = number_of n; strength = strength_in r; tag = tag_of n; suggestion = suggestion_in r }

unfoldable pub cells_of : ℕ → List Float → List Float
cells_of n row = list_of n λ j. get_or row (cells_at + j) nan

unfoldable pub basic_of : ℕ → ℕ → List Float → Basic
basic_of n c row = record { symbol = symbol_of c; row = record { constant = get_or row 0 nan; cells = cells_of n row } }

unfoldable pub symbols_of : Tables → List Symbol
symbols_of t = list_of (symbol_count t.head) λ i. symbol_of (get_or t.head (symbols_at + i) 0)

unfoldable pub basics_of : Tables → List Basic
basics_of t = list_of (row_count t.head) λ i. basic_of (symbol_count t.head) (get_or t.head (rows_at + i) 0) (get_or t.rows (basics_at + i) [])

unfoldable pub variables_of : Tables → List Variable
variables_of t = list_of (variable_count t.head) λ i. variable_of (get_or t.names i []) (get_or t.reals i [])

unfoldable pub constraints_of : Tables → List Constraint
constraints_of t = list_of (constraint_count t.head) λ i. constraint_of (get_or t.names (constraints_at + i) []) (get_or t.reals (constraints_at + i) [])

unfoldable pub edits_of : Tables → List Edit
edits_of t = list_of (edit_count t.head) λ i. edit_of (get_or t.names (edits_at + i) []) (get_or t.reals (edits_at + i) [])

unfoldable pub read : Tables → State
read t =
    record {
      tableau =
          record {
            -- these tables are older than the choice of a cutoff and have no place for it
            cutoff = usual_cutoff;
            symbols = symbols_of t;
            next_id = next_id_of t.head;
            rows = basics_of t;
            objective = cells_of (symbol_count t.head) (get_or t.rows 0 []);
          };
      -- nor for the variables that are gone: none wait
      changes = record { variables = variables_of t; gone = []; should_clear = eqb (clear_flag t.head) 1 };
      constraints = constraints_of t;
      edits = edits_of t;
      whole = eqb (whole_flag t.head) 1;
    }

-- ---- a state written into tables

-- a list over the first places of another from a on
unfoldable pub over : {A : Type 0} → ℕ → List A → List A → List A
over a l m = laid (λ x _. x) a l m

unfoldable pub variable_names : Variable → List ℕ
variable_names v = v.number ∷ code v.symbol ∷ v.uses ∷ bit_of v.changed ∷ []

unfoldable pub variable_reals : Variable → List Float
variable_reals v = v.old ∷ []

unfoldable pub constraint_names : Constraint → List ℕ
constraint_names c = c.number ∷ code c.tag.marker ∷ other_code c.tag.other ∷ length c.terms ∷ comparison_code c.comparison ∷ map (λ (t : Term). t.variable) c.terms

unfoldable pub constraint_reals : Constraint → List Float
constraint_reals c = c.strength ∷ c.constant ∷ map (λ (t : Term). t.coefficient) c.terms

unfoldable pub edit_names : Edit → List ℕ
edit_names e = e.variable ∷ code e.tag.marker ∷ other_code e.tag.other ∷ []

unfoldable pub edit_reals : Edit → List Float
edit_reals e = e.strength ∷ e.suggestion ∷ []

unfoldable pub basic_row : Basic → List Float
basic_row b = b.row.constant ∷ b.row.cells

unfoldable pub basic_code : Basic → ℕ
basic_code b = code b.symbol

-- the next id and the tableau's counts, at the head's first places
unfoldable pub heading : State → List ℕ
heading s = s.tableau.next_id ∷ length s.tableau.symbols ∷ length s.tableau.rows ∷ []

-- the records' counts and the flags
unfoldable pub record_counts : State → List ℕ
record_counts s = length s.changes.variables ∷ length s.constraints ∷ length s.edits ∷ bit_of s.changes.should_clear ∷ bit_of s.whole ∷ []

unfoldable pub write_head : State → List ℕ → List ℕ
write_head s h = over rows_at (map basic_code s.tableau.rows) (over symbols_at (map code s.tableau.symbols) (over record_counts_at (record_counts s) (over 0 (heading s) h)))

unfoldable pub write_names : State → List (List ℕ) → List (List ℕ)
write_names s n =
    laid (λ e m. over 0 (edit_names e) m) edits_at s.edits (laid (λ c m. over 0 (constraint_names c) m) constraints_at s.constraints (laid (λ v m. over 0 (variable_names v) m) 0 s.changes.variables n))

unfoldable pub write_reals : State → List (List Float) → List (List Float)
write_reals s r =
    laid (λ e m. over 0 (edit_reals e) m) edits_at s.edits (laid (λ c m. over 0 (constraint_reals c) m) constraints_at s.constraints (laid (λ v m. over 0 (variable_reals v) m) 0 s.changes.variables r))

unfoldable pub write_rows : State → List (List Float) → List (List Float)
write_rows s w = laid (λ b m. over 0 (basic_row b) m) basics_at s.tableau.rows (laid (λ cs m. over cells_at cs m) 0 (s.tableau.objective ∷ []) w)

unfoldable pub write : State → Tables → Tables
write s t = tables (write_head s t.head) (write_names s t.names) (write_reals s t.reals) (write_rows s t.rows)
