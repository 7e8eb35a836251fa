-- The operations on one row, place by place: place 0 the constant, places 1 to `width` the cells. A place past the width is left as it is.
use Rattle.std.specs.Prelude.{◌≡◌, ℕ, ◌+◌, Bool, true, false, cond, List, get_or, slice_index_or, slice_set, refl, Float}
use Rattle.std.proofs.Common.{sym}
use Rattle.std.proofs.lemmas.List.{set-get_or}
use Rattle.std.specs.Float.{nan}
use Rattle.std.specs.Float.Ieee.{ne, neg}
use Rattle.steps.specs.Number.{zero64, minus_one64, cell_bound, constant_bound, ◌+₆₄◌, ◌*₆₄◌, ◌/₆₄◌, Mark, all_whole, worse, mark_write}
use Rattle.steps.specs.Symbol.{absent}
use Rattle.steps.specs.Row.{Cell, kept, stored, cell_value, cell_mark, insert_cell, insert_times, scale_cell, factor_mark}
use Rattle.laws.specs.Loops.{map_in, zip_in, fold_in, fold2_in}
use Rattle.rows.specs.Marks.{worse-unit, insert_times-is}

-- ---- a cell's new value, and the mark so far with it

unfoldable pub inserted_value : Float → Float → Float → Float → Float
inserted_value cutoff k c o = cell_value (insert_times cutoff k o c)

unfoldable pub inserted_mark : Float → Float → Float → Mark → Float → Float → Mark
inserted_mark cutoff bound k m c o = worse m (cell_mark bound (insert_times cutoff k o c))

unfoldable pub scaled_value : Float → Float → Float
scaled_value factor c = cell_value (scale_cell factor c)

unfoldable pub scaled_mark : Float → Mark → Float → Mark
scaled_mark factor m c = worse m (cell_mark cell_bound (scale_cell factor c))

unfoldable pub reversed_value : Float → Float
reversed_value c = stored (neg c)

-- ---- insert

unfoldable pub insert_symbol_at : Float → ℕ → Float → List Float → List Float
insert_symbol_at cutoff at k row = slice_set row at (cell_value (insert_cell cutoff (slice_index_or row at nan) k))

unfoldable pub insert_symbol_mark : Float → ℕ → Float → Float → List Float → Mark
insert_symbol_mark cutoff at k bound row = cell_mark bound (insert_cell cutoff (slice_index_or row at nan) k)

unfoldable pub insert_cells_in : Float → Float → ℕ → List Float → List Float → List Float
insert_cells_in cutoff k width other row = zip_in (inserted_value cutoff k) 1 (1 + width) row other

unfoldable pub insert_cells_mark : Float → Float → Float → ℕ → List Float → List Float → Mark
insert_cells_mark cutoff bound k width other row = fold2_in (inserted_mark cutoff bound k) 1 (1 + width) row other all_whole

unfoldable pub added_constant : Float → List Float → List Float → Float
added_constant k other row = slice_index_or row 0 nan +₆₄ (slice_index_or other 0 nan *₆₄ k)

unfoldable pub insert_row_in : Float → Float → ℕ → List Float → List Float → List Float
insert_row_in cutoff k width other row = insert_cells_in cutoff k width other (slice_set row 0 (added_constant k other row))

unfoldable pub insert_row_mark : Float → Float → ℕ → List Float → List Float → Mark
insert_row_mark cutoff k width other row =
    worse (mark_write constant_bound (added_constant k other row)) (insert_cells_mark cutoff cell_bound k width other (slice_set row 0 (added_constant k other row)))

unfoldable pub insert_row_changed : Float → List Float → Bool
insert_row_changed k other = ne (slice_index_or other 0 nan *₆₄ k) zero64

-- ---- solve

unfoldable pub scale_cells_in : Float → ℕ → List Float → List Float
scale_cells_in factor width row = map_in (scaled_value factor) 1 (1 + width) row

unfoldable pub scale_cells_mark : Float → ℕ → List Float → Mark
scale_cells_mark factor width row = fold_in (scaled_mark factor) 1 (1 + width) row all_whole

unfoldable pub solve_factor : ℕ → List Float → Float
solve_factor at row = minus_one64 /₆₄ get_or row at nan

-- the symbol at the place goes, the constant is multiplied
unfoldable pub solve_start : ℕ → List Float → List Float
solve_start at row = slice_set (slice_set row 0 (slice_index_or row 0 nan *₆₄ solve_factor at row)) at zero64

unfoldable pub solve_row_in : ℕ → ℕ → List Float → List Float
solve_row_in at width row = scale_cells_in (solve_factor at row) width (solve_start at row)

unfoldable pub solve_row_mark : ℕ → ℕ → List Float → Mark
solve_row_mark at width row =
    worse
    (factor_mark (slice_index_or row at nan) (solve_factor at row))
    (worse (mark_write constant_bound (slice_index_or row 0 nan *₆₄ solve_factor at row)) (scale_cells_mark (solve_factor at row) width (solve_start at row)))

unfoldable pub solve_for_symbols_in : Float → ℕ → ℕ → ℕ → List Float → List Float
solve_for_symbols_in cutoff leaving entering width row = solve_row_in entering width (insert_symbol_at cutoff leaving minus_one64 row)

unfoldable pub solve_for_symbols_mark : Float → ℕ → ℕ → ℕ → List Float → Mark
solve_for_symbols_mark cutoff leaving entering width row =
    worse (insert_symbol_mark cutoff leaving minus_one64 cell_bound row) (solve_row_mark entering width (insert_symbol_at cutoff leaving minus_one64 row))

unfoldable pub reverse_sign_in : ℕ → List Float → List Float
reverse_sign_in width row = map_in reversed_value 1 (1 + width) (slice_set row 0 (neg (slice_index_or row 0 nan)))

-- ---- substitute for the symbol at a place

unfoldable pub substitute_row_in : Float → ℕ → ℕ → List Float → List Float → List Float
substitute_row_in cutoff at width other row =
    cond (absent (slice_index_or row at nan)) row (insert_row_in cutoff (slice_index_or row at nan) width other (slice_set row at zero64))

unfoldable pub substitute_row_mark : Float → ℕ → ℕ → List Float → List Float → Mark
substitute_row_mark cutoff at width other row =
    cond (absent (slice_index_or row at nan)) all_whole (insert_row_mark cutoff (slice_index_or row at nan) width other (slice_set row at zero64))

unfoldable pub substitute_row_changed : ℕ → List Float → List Float → Bool
substitute_row_changed at other row = cond (absent (slice_index_or row at nan)) false (insert_row_changed (slice_index_or row at nan) other)

unfoldable pub substitute_cells_in : Float → ℕ → ℕ → List Float → List Float → List Float
substitute_cells_in cutoff at width other row =
    cond (absent (slice_index_or row at nan)) row (insert_cells_in cutoff (slice_index_or row at nan) width other (slice_set row at zero64))

unfoldable pub substitute_cells_mark : Float → Float → ℕ → ℕ → List Float → List Float → Mark
substitute_cells_mark cutoff bound at width other row =
    cond (absent (slice_index_or row at nan)) all_whole (insert_cells_mark cutoff bound (slice_index_or row at nan) width other (slice_set row at zero64))

-- ---- a constant that gets d

unfoldable pub shift_constant_in : Float → List Float → List Float
shift_constant_in d row = slice_set row 0 (slice_index_or row 0 nan +₆₄ d)

unfoldable pub shift_constant_mark : Float → List Float → Mark
shift_constant_mark d row = mark_write constant_bound (slice_index_or row 0 nan +₆₄ d)

-- ---- a turn of each loop, from what its calls ensure

-- an absent cell of the row that is inserted: nothing is written
pub passed_over : (cutoff k o : Float) (row : List Float) (i : ℕ) → absent o ≡ true → row ≡ slice_set row i (inserted_value cutoff k (slice_index_or row i nan) o)
unfolding inserted_value cell_value
passed_over cutoff k o row i h = rw (insert_times-is cutoff, h) (sym (set-get_or row i nan))

pub passed-mark : (cutoff bound k c o : Float) (m : Mark) → absent o ≡ true → m ≡ inserted_mark cutoff bound k m c o
unfolding inserted_mark cell_mark
passed-mark cutoff bound k c o m h = rw (insert_times-is cutoff, h) (sym (worse-unit m))

-- and one that is there
pub there-is : (cutoff k c o : Float) {l : Cell} → absent o ≡ false → l ≡ insert_cell cutoff c (o *₆₄ k) → l ≡ insert_times cutoff k o c
there-is cutoff k c o h e = rw (insert_times-is cutoff, h) e

scale-absent : (factor c : Float) → absent c ≡ true → scale_cell factor c ≡ kept c
unfolding scale_cell
scale-absent factor c h = rw (h, scale_cell) refl

pub unscaled-over : (factor : Float) (row : List Float) (i : ℕ) → absent (slice_index_or row i nan) ≡ true → row ≡ slice_set row i (scaled_value factor (slice_index_or row i nan))
unfolding scaled_value cell_value
unscaled-over factor row i h = rw (scale-absent factor (slice_index_or row i nan) h) (sym (set-get_or row i nan))

pub unscaled-mark : (factor c : Float) (m : Mark) → absent c ≡ true → m ≡ scaled_mark factor m c
unfolding scaled_mark cell_mark
unscaled-mark factor c m h = rw (scale-absent factor c h) (sym (worse-unit m))

pub inserted-value : (cutoff k c o : Float) {v : Float} {l : Cell} → v ≡ cell_value l → l ≡ insert_times cutoff k o c → v ≡ inserted_value cutoff k c o
unfolding inserted_value
inserted-value cutoff k c o h q = rw (← q) h

pub inserted-mark : (cutoff bound k c o : Float) (m : Mark) {t : Mark} {l : Cell} → t ≡ worse m (cell_mark bound l) → l ≡ insert_times cutoff k o c → t ≡ inserted_mark cutoff bound k m c o
unfolding inserted_mark
inserted-mark cutoff bound k c o m h q = rw (← q) h

pub scaled_value_lem : (factor c : Float) {v : Float} {l : Cell} → v ≡ cell_value l → l ≡ scale_cell factor c → v ≡ scaled_value factor c
unfolding scaled_value
scaled_value_lem factor c h q = rw (← q) h

pub scaled-mark : (factor c : Float) (m : Mark) {t : Mark} {l : Cell} → t ≡ worse m (cell_mark cell_bound l) → l ≡ scale_cell factor c → t ≡ scaled_mark factor m c
unfolding scaled_mark
scaled-mark factor c m h q = rw (← q) h
