-- One row of the table, read as a row of the steps: each operation on places reads as the steps' operation on what was read.
use Rattle.std.specs.Prelude.{◌≡◌, ℕ, ◌+◌, ◌<◌, ◌≤◌, Bool, true, false, cond, List, map, length, get_or, set, slice_index_or, slice_set, Float}
use Rattle.std.proofs.Math.Path.{refl, sym, ap}
use Rattle.std.proofs.Common.{◌∙◌, add-zero, arith, length-set, get_or-set_same, get_or-set_other}
use Rattle.std.proofs.Math.Option.{some}
use Rattle.std.specs.Float.Ieee.{nan, ne, neg}
use Rattle.laws.specs.Loops.{map_in}
use Rattle.laws.specs.Lists.{tab, list_of, map-tab}
use Rattle.laws.specs.Places.{map_in-before, zip_in-before, tab-map_in, tab-zip_in}
use Rattle.steps.specs.Number.{zero64, minus_one64, cell_bound, ◌+₆₄◌, ◌*₆₄◌, ◌/₆₄◌, Mark, all_whole, worse}
use Rattle.steps.specs.Symbol.{Symbol, absent, coefficient_for, clear_cell}
use Rattle.steps.specs.Row.{Row, Cell, kept, stored, cell_value, cell_values, cell_mark, cell_marks, insert_cell, insert_symbol, insert_times, insert_cells, Written, untouched, insert_symbol_in_row, insert_row, scale_cell, scale_cells, solve_for_symbol, solve_for_symbols, reverse_sign}
use Rattle.steps.specs.Substitute.{substitute_in_row, substitute_in_cells}
use Rattle.steps.specs.Edit.{shift_row}
use Rattle.layout.specs.Layout.{cells_of}
use Rattle.rows.specs.Table.{inserted_value, inserted_mark, scaled_value, scaled_mark, reversed_value, insert_symbol_at, insert_symbol_mark, insert_cells_in, insert_cells_mark, added_constant, insert_row_in, insert_row_mark, insert_row_changed, scale_cells_in, scale_cells_mark, solve_factor, solve_start, solve_row_in, solve_row_mark, solve_for_symbols_in, solve_for_symbols_mark, reverse_sign_in, substitute_row_in, substitute_row_mark, substitute_row_changed, substitute_cells_in, substitute_cells_mark, shift_constant_in, shift_constant_mark}
use Rattle.rows.specs.Stays.{length-insert_symbol_at}
use Rattle.rows.specs.Place.{PlaceOf, place-below, coefficient-at, clear_at, kept-values, kept-marks, insert-values, insert-marks}
use Rattle.rows.specs.Cells.{length-cells, cell-at, cells-set, cells-constant, values-tab, insert-tab, scale-tab, fold-cells, fold2-cells}

unfoldable pub row_of : ℕ → List Float → Row
row_of n row = record { constant = slice_index_or row 0 nan; cells = cells_of n row }

abbrev pub written_of : Row → Bool → Mark → Written
written_of r b m = record { row = r; constant_changed = b; mark = m }

-- ---- insert

pub insert-cells-read : (cutoff k : Float) (n : ℕ) (other row : List Float) → n < length row → n < length other → cells_of n (insert_cells_in cutoff k n other row) ≡ cell_values (insert_cells cutoff k (cells_of n other) (cells_of n row))
unfolding cells_of list_of insert_cells_in inserted_value
insert-cells-read cutoff k n other row h h₁ =
    tab-zip_in (inserted_value cutoff k) 1 n row other nan nan (omega arith) (omega arith)
    ∙ sym (ap cell_values (insert-tab cutoff k (λ j. get_or other (1 + j) nan) (λ j. get_or row (1 + j) nan) 0 n) ∙ values-tab (λ j. insert_times cutoff k (slice_index_or other (1 + j) nan) (slice_index_or row (1 + j) nan)) 0 n)

pub insert-cells-marks : (cutoff bound k : Float) (n : ℕ) (other row : List Float) → n < length row → n < length other → insert_cells_mark cutoff bound k n other row ≡ cell_marks bound (insert_cells cutoff k (cells_of n other) (cells_of n row))
unfolding cells_of list_of insert_cells_mark inserted_mark worse
insert-cells-marks cutoff bound k n other row h h₁ =
    let e : 1 + 0 ≡ 1 = add-zero 1 in
    rw e at (fold2-cells bound (λ c o. insert_times cutoff k o c) 0 n row other all_whole (omega arith) (omega arith))
    ∙ sym (ap (cell_marks bound) (insert-tab cutoff k (λ j. get_or other (1 + j) nan) (λ j. get_or row (1 + j) nan) 0 n))

insert-cells-constant : (cutoff k : Float) (n : ℕ) (other row : List Float) → slice_index_or (insert_cells_in cutoff k n other row) 0 nan ≡ slice_index_or row 0 nan
unfolding insert_cells_in
insert-cells-constant cutoff k n other row = zip_in-before (inserted_value cutoff k) 1 (1 + n) row other 0 nan (omega arith)

pub insert-row-read : (cutoff k : Float) (n : ℕ) (other row : List Float) → n < length row → n < length other
    → written_of (row_of n (insert_row_in cutoff k n other row)) (insert_row_changed k other) (insert_row_mark cutoff k n other row) ≡ insert_row cutoff (row_of n other) k (row_of n row)
unfolding row_of added_constant insert_row_in insert_row_mark insert_row_changed insert_row
insert-row-read cutoff k n other row h h₁ =
    let v : Float = added_constant k other row in
    let l : n < length (slice_set row 0 v) = rw (length-set row 0 v) h in
    let c : get_or (insert_cells_in cutoff k n other (slice_set row 0 v)) 0 nan ≡ v = insert-cells-constant cutoff k n other (slice_set row 0 v) ∙ get_or-set_same row 0 v nan (omega arith) in
    rw (c, insert-cells-read cutoff k n other (slice_set row 0 v) l h₁, insert-cells-marks cutoff cell_bound k n other (slice_set row 0 v) l h₁, cells-constant n row v) refl

-- ---- a symbol's cell: s stands at place j of the live symbols, and so at place 1 + j of the row

module _ (s : ℕ) (symbols : List Symbol) (j n : ℕ) (row : List Float) (p : PlaceOf s symbols j) (m : length symbols ≡ n) where
  along : length (cells_of n row) ≡ length symbols
  along = length-cells n row ∙ sym m

  below : j < n
  below = rw m at (place-below s symbols j p)

  pub coefficient-read : coefficient_for s symbols (cells_of n row) ≡ slice_index_or row (1 + j) nan
  coefficient-read = coefficient-at s symbols j (cells_of n row) nan p along ∙ cell-at n row j nan below

  pub clear-read : n < length row → cells_of n (slice_set row (1 + j) zero64) ≡ clear_cell s symbols (cells_of n row)
  clear-read h = cells-set n row j zero64 below h ∙ sym (clear_at s symbols j (cells_of n row) p along)

  -- the constant stands apart
  pub constant-stays : (v : Float) → slice_index_or (slice_set row (1 + j) v) 0 nan ≡ slice_index_or row 0 nan
  constant-stays v = get_or-set_other row (1 + j) 0 v nan (omega arith)

  pub clear-row-read : n < length row → row_of n (slice_set row (1 + j) zero64) ≡ record { constant = slice_index_or row 0 nan; cells = clear_cell s symbols (cells_of n row) }
  unfolding row_of
  clear-row-read h = rw (constant-stays zero64, clear-read h)

  pub insert-symbol-values : (cutoff k : Float) → n < length row → cells_of n (insert_symbol_at cutoff (1 + j) k row) ≡ cell_values (insert_symbol cutoff s k symbols (cells_of n row))
  unfolding insert_symbol_at
  insert-symbol-values cutoff k h =
      cells-set n row j (cell_value (insert_cell cutoff (slice_index_or row (1 + j) nan) k)) below h
      ∙ sym (insert-values cutoff s k symbols j (cells_of n row) nan p along ∙ ap (λ (c : Float). set (cells_of n row) j (cell_value (insert_cell cutoff c k))) (cell-at n row j nan below))

  pub insert-symbol-marks : (cutoff bound k : Float) → insert_symbol_mark cutoff (1 + j) k bound row ≡ cell_marks bound (insert_symbol cutoff s k symbols (cells_of n row))
  unfolding insert_symbol_mark
  insert-symbol-marks cutoff bound k =
      sym (insert-marks cutoff s k bound symbols j (cells_of n row) nan p along ∙ ap (λ (c : Float). cell_mark bound (insert_cell cutoff c k)) (cell-at n row j nan below))

  insert-symbol-constant : (cutoff k : Float) → slice_index_or (insert_symbol_at cutoff (1 + j) k row) 0 nan ≡ slice_index_or row 0 nan
  unfolding insert_symbol_at
  insert-symbol-constant cutoff k = constant-stays (cell_value (insert_cell cutoff (slice_index_or row (1 + j) nan) k))

  pub insert-symbol-read : (cutoff k : Float) → n < length row → written_of (row_of n (insert_symbol_at cutoff (1 + j) k row)) false (insert_symbol_mark cutoff (1 + j) k cell_bound row) ≡ insert_symbol_in_row cutoff s k symbols (row_of n row)
  unfolding row_of insert_symbol_in_row
  insert-symbol-read cutoff k h = rw (insert-symbol-values cutoff k h, insert-symbol-marks cutoff cell_bound k, insert-symbol-constant cutoff k) refl

-- ---- solve

scale-cells-read : (factor : Float) (n : ℕ) (row : List Float) → n < length row → cells_of n (scale_cells_in factor n row) ≡ cell_values (scale_cells factor (cells_of n row))
unfolding cells_of list_of scale_cells_in scaled_value
scale-cells-read factor n row h =
    tab-map_in (scaled_value factor) 1 n row nan (omega arith)
    ∙ sym (ap cell_values (scale-tab factor (λ j. get_or row (1 + j) nan) 0 n) ∙ values-tab (λ j. scale_cell factor (slice_index_or row (1 + j) nan)) 0 n)

scale-cells-marks : (factor : Float) (n : ℕ) (row : List Float) → n < length row → scale_cells_mark factor n row ≡ cell_marks cell_bound (scale_cells factor (cells_of n row))
unfolding cells_of list_of scale_cells_mark scaled_mark worse
scale-cells-marks factor n row h =
    let e : 1 + 0 ≡ 1 = add-zero 1 in
    rw e at (fold-cells cell_bound (scale_cell factor) 0 n row all_whole (omega arith))
    ∙ sym (ap (cell_marks cell_bound) (scale-tab factor (λ j. get_or row (1 + j) nan) 0 n))

scale-cells-constant : (factor : Float) (n : ℕ) (row : List Float) → slice_index_or (scale_cells_in factor n row) 0 nan ≡ slice_index_or row 0 nan
unfolding scale_cells_in
scale-cells-constant factor n row = map_in-before (scaled_value factor) 1 (1 + n) row 0 nan (omega arith)

pub solve-read : (s : ℕ) (symbols : List Symbol) (j n : ℕ) (row : List Float) → PlaceOf s symbols j → length symbols ≡ n → n < length row
    → written_of (row_of n (solve_row_in (1 + j) n row)) false (solve_row_mark (1 + j) n row) ≡ solve_for_symbol s symbols (row_of n row)
unfolding row_of solve_factor solve_start solve_row_in solve_row_mark solve_for_symbol
solve-read s symbols j n row p m h =
    let f : Float = minus_one64 /₆₄ get_or row (1 + j) nan in
    let v : Float = slice_index_or row 0 nan *₆₄ f in
    let start : List Float = set (slice_set row 0 v) (1 + j) zero64 in
    let l : n < length (slice_set row 0 v) = rw (length-set row 0 v) h in
    let l₁ : n < length start = rw (length-set (slice_set row 0 v) (1 + j) zero64) l in
    let c : get_or (scale_cells_in f n start) 0 nan ≡ v =
    scale-cells-constant f n start ∙ constant-stays s symbols j n (slice_set row 0 v) p m zero64 ∙ get_or-set_same row 0 v nan (omega arith) in
    let d : cells_of n start ≡ clear_cell s symbols (cells_of n row) = clear-read s symbols j n (slice_set row 0 v) p m l ∙ ap (clear_cell s symbols) (cells-constant n row v) in
    rw (coefficient-read s symbols j n row p m, c, scale-cells-read f n start l₁, scale-cells-marks f n start l₁, d) refl

-- the leaving symbol at place i, the entering one at place j
pub solve-both-read : (cutoff : Float) (t s : ℕ) (symbols : List Symbol) (i j n : ℕ) (row : List Float) → PlaceOf t symbols i → PlaceOf s symbols j → length symbols ≡ n → n < length row
    → written_of (row_of n (solve_for_symbols_in cutoff (1 + i) (1 + j) n row)) false (solve_for_symbols_mark cutoff (1 + i) (1 + j) n row) ≡ solve_for_symbols cutoff t s symbols (row_of n row)
unfolding solve_for_symbols_in solve_for_symbols_mark solve_for_symbols
solve-both-read cutoff t s symbols i j n row q p m h =
    let l : n < length (insert_symbol_at cutoff (1 + i) minus_one64 row) = rw (length-insert_symbol_at cutoff (1 + i) minus_one64 row) h in
    let e = insert-symbol-read t symbols i n row q m cutoff minus_one64 h in
    rw (← e, ← solve-read s symbols j n (insert_symbol_at cutoff (1 + i) minus_one64 row) p m l) refl

-- ---- substitute

substitute-row-is : (cutoff : Float) (s : ℕ) (symbols : List Symbol) (other mine : Row)
    → substitute_in_row cutoff s symbols other mine
    ≡ cond (absent (coefficient_for s symbols mine.cells)) (untouched mine) (insert_row cutoff other (coefficient_for s symbols mine.cells) (record { constant = mine.constant; cells = clear_cell s symbols mine.cells }))
unfolding substitute_in_row
substitute-row-is cutoff s symbols other mine = go (coefficient_for s symbols mine.cells) (absent (coefficient_for s symbols mine.cells))
  where
    go : (k : Float) (b : Bool)
        → elim b [ true ↦ untouched mine | false ↦ insert_row cutoff other k (record { constant = mine.constant; cells = clear_cell s symbols mine.cells }) ]
        ≡ cond b (untouched mine) (insert_row cutoff other k (record { constant = mine.constant; cells = clear_cell s symbols mine.cells }))
    go k true = refl
    go k false = refl

pub substitute-row-read : (cutoff : Float) (s : ℕ) (symbols : List Symbol) (j n : ℕ) (other row : List Float) → PlaceOf s symbols j → length symbols ≡ n → n < length row → n < length other
    → written_of (row_of n (substitute_row_in cutoff (1 + j) n other row)) (substitute_row_changed (1 + j) other row) (substitute_row_mark cutoff (1 + j) n other row) ≡ substitute_in_row cutoff s symbols (row_of n other) (row_of n row)
unfolding row_of substitute_row_in substitute_row_changed substitute_row_mark untouched
substitute-row-read cutoff s symbols j n other row p m h h₁ =
    let k : Float = get_or row (1 + j) nan in
    let l : n < length (slice_set row (1 + j) zero64) = rw (length-set row (1 + j) zero64) h in
    rw (substitute-row-is cutoff s symbols (row_of n other) (row_of n row), coefficient-read s symbols j n row p m, ← clear-row-read s symbols j n row p m h)
    (go (absent k) _ _ _ _ (insert-row-read cutoff k n other (slice_set row (1 + j) zero64) l h₁))
  where
    go : (b : Bool) (x y : List Float) (c : Bool) (a : Mark) {w : Written} → written_of (row_of n y) c a ≡ w
        → written_of (row_of n (cond b x y)) (cond b false c) (cond b all_whole a) ≡ cond b (untouched (row_of n x)) w
    go true x y c a q = refl
    go false x y c a q = q

substitute-cells-is : (cutoff : Float) (s : ℕ) (symbols : List Symbol) (other mine : List Float)
    → substitute_in_cells cutoff s symbols other mine ≡ cond (absent (coefficient_for s symbols mine)) (map kept mine) (insert_cells cutoff (coefficient_for s symbols mine) other (clear_cell s symbols mine))
unfolding substitute_in_cells
substitute-cells-is cutoff s symbols other mine = go (coefficient_for s symbols mine) (absent (coefficient_for s symbols mine))
  where
    go : (k : Float) (b : Bool) → elim b [ true ↦ map kept mine | false ↦ insert_cells cutoff k other (clear_cell s symbols mine) ] ≡ cond b (map kept mine) (insert_cells cutoff k other (clear_cell s symbols mine))
    go k true = refl
    go k false = refl

module _ (cutoff : Float) (s : ℕ) (symbols : List Symbol) (j n : ℕ) (other row : List Float) (p : PlaceOf s symbols j) (m : length symbols ≡ n) (h : n < length row) (h₁ : n < length other) where
  cleared : n < length (slice_set row (1 + j) zero64)
  cleared = rw (length-set row (1 + j) zero64) h

  pub substitute-cells-read : cells_of n (substitute_cells_in cutoff (1 + j) n other row) ≡ cell_values (substitute_in_cells cutoff s symbols (cells_of n other) (cells_of n row))
  unfolding substitute_cells_in
  substitute-cells-read =
      rw (substitute-cells-is cutoff s symbols (cells_of n other) (cells_of n row), coefficient-read s symbols j n row p m, ← clear-read s symbols j n row p m h)
      (go (absent (slice_index_or row (1 + j) nan)) _ _ (insert-cells-read cutoff (slice_index_or row (1 + j) nan) n other (slice_set row (1 + j) zero64) cleared h₁))
    where
      go : (b : Bool) (y : List Float) (cs : List Cell) → cells_of n y ≡ cell_values cs → cells_of n (cond b row y) ≡ cell_values (cond b (map kept (cells_of n row)) cs)
      go true y cs q = sym (kept-values (cells_of n row))
      go false y cs q = q

  pub substitute-cells-marks : (bound : Float) → substitute_cells_mark cutoff bound (1 + j) n other row ≡ cell_marks bound (substitute_in_cells cutoff s symbols (cells_of n other) (cells_of n row))
  unfolding substitute_cells_mark
  substitute-cells-marks bound =
      rw (substitute-cells-is cutoff s symbols (cells_of n other) (cells_of n row), coefficient-read s symbols j n row p m, ← clear-read s symbols j n row p m h)
      (go (absent (slice_index_or row (1 + j) nan)) _ _ (insert-cells-marks cutoff bound (slice_index_or row (1 + j) nan) n other (slice_set row (1 + j) zero64) cleared h₁))
    where
      go : (b : Bool) (a : Mark) (cs : List Cell) → a ≡ cell_marks bound cs → cond b all_whole a ≡ cell_marks bound (cond b (map kept (cells_of n row)) cs)
      go true a cs q = sym (kept-marks bound (cells_of n row))
      go false a cs q = q

-- ---- the rest

pub reverse-read : (n : ℕ) (row : List Float) → n < length row → row_of n (reverse_sign_in n row) ≡ reverse_sign (row_of n row)
unfolding row_of reverse_sign_in reverse_sign reversed_value cells_of list_of
reverse-read n row h =
    let v : Float = neg (slice_index_or row 0 nan) in
    let l : 1 + n ≤ length (slice_set row 0 v) = rw (length-set row 0 v) (omega (arith, h)) in
    let c : get_or (map_in reversed_value 1 (1 + n) (slice_set row 0 v)) 0 nan ≡ v = map_in-before reversed_value 1 (1 + n) (slice_set row 0 v) 0 nan (omega arith) ∙ get_or-set_same row 0 v nan (omega (arith, h)) in
    let d : tab (λ j. get_or (map_in reversed_value 1 (1 + n) (slice_set row 0 v)) (1 + j) nan) 0 n ≡ map (λ (c : Float). stored (neg c)) (tab (λ j. get_or row (1 + j) nan) 0 n) =
    tab-map_in reversed_value 1 n (slice_set row 0 v) nan l
    ∙ sym (map-tab reversed_value (λ j. get_or (slice_set row 0 v) (1 + j) nan) 0 n)
    ∙ ap (map reversed_value) (cells-constant n row v) in
    rw (c, d) refl

pub shift-read : (n : ℕ) (d : Float) (row : List Float) → n < length row
    → written_of (row_of n (shift_constant_in d row)) (ne d zero64) (shift_constant_mark d row) ≡ shift_row (row_of n row) (some d)
unfolding row_of shift_constant_in shift_constant_mark shift_row
shift-read n d row h = rw (get_or-set_same row 0 (slice_index_or row 0 nan +₆₄ d) nan (omega (arith, h)), cells-constant n row (slice_index_or row 0 nan +₆₄ d)) refl
