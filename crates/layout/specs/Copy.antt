-- The live part of tables put over other tables, as the code does it, place by place.
use Rattle.std.specs.Prelude.{ℕ, ◌+◌, Bool, true, false, cond, List, [], leb, get_or, set, Float}
use Rattle.std.specs.Float.{nan}
use Rattle.laws.specs.Loops.{run}
use Rattle.layout.specs.Laying.{remade}
use Rattle.layout.specs.Layout.{Tables, tables, symbols_at, rows_at, heading_end, record_counts_at, record_counts_end, symbol_count, row_count, variable_count, constraint_count, edit_count, constraints_at, edits_at, term_count, cells_at, basics_at}

-- a constraint's count of terms, held to the room for them
unfoldable pub most16 : ℕ → ℕ
most16 c = cond (leb c 16) c 16

unfoldable pub put_span : List ℕ → ℕ → ℕ → List ℕ → List ℕ
put_span from a e to = run (remade 0 (λ i _. get_or from i 0)) a e to

unfoldable pub put_part : List Float → ℕ → ℕ → List Float → List Float
put_part from a e to = run (remade nan (λ i _. get_or from i nan)) a e to

unfoldable pub put_rows : List (List Float) → ℕ → ℕ → List (List Float) → List (List Float)
put_rows from k r to = run (remade [] (λ i row. put_part (get_or from i []) 0 (cells_at + k) row)) basics_at (basics_at + r) to

unfoldable pub put_count : Bool → ℕ → ℕ
put_count counted n = cond counted (most16 n) 0

unfoldable pub put_counted : ℕ → ℕ → ℕ
put_counted base n = cond (leb (base + n) 18) (base + n) 18

unfoldable pub put_names : List (List ℕ) → ℕ → ℕ → ℕ → Bool → List (List ℕ) → List (List ℕ)
put_names from a e base counted to = run (remade [] (λ i row. put_span (get_or from i []) 0 (base + put_count counted (term_count (get_or from i []))) row)) a e to

unfoldable pub put_reals : List (List Float) → List (List ℕ) → ℕ → ℕ → ℕ → Bool → List (List Float) → List (List Float)
put_reals from names a e base counted to = run (remade [] (λ i row. put_part (get_or from i []) 0 (put_counted base (put_count counted (term_count (get_or names i [])))) row)) a e to

-- ---- the live part of each table, with the counts of the head g

unfoldable pub head_over : List ℕ → List ℕ → List ℕ
head_over g h = put_span g rows_at (rows_at + row_count g) (put_span g symbols_at (symbols_at + symbol_count g) (put_span g record_counts_at record_counts_end (put_span g 0 heading_end h)))

unfoldable pub names_over : List ℕ → List (List ℕ) → List (List ℕ) → List (List ℕ)
names_over g from n = put_names from edits_at (edits_at + edit_count g) 3 false (put_names from constraints_at (constraints_at + constraint_count g) 5 true (put_names from 0 (variable_count g) 4 false n))

unfoldable pub reals_over : List ℕ → List (List ℕ) → List (List Float) → List (List Float) → List (List Float)
reals_over g names from r = put_reals from names edits_at (edits_at + edit_count g) 2 false (put_reals from names constraints_at (constraints_at + constraint_count g) 2 true (put_reals from names 0 (variable_count g) 1 false r))

unfoldable pub rows_over : List ℕ → List (List Float) → List (List Float) → List (List Float)
rows_over g from m = put_rows from (symbol_count g) (row_count g) (set m 0 (put_part (get_or from 0 []) cells_at (cells_at + symbol_count g) (get_or m 0 [])))

-- the live part of w over t
unfoldable pub put_over : Tables → Tables → Tables
put_over w t = tables (head_over w.head t.head) (names_over w.head w.names t.names) (reals_over w.head w.names w.reals t.reals) (rows_over w.head w.rows t.rows)
