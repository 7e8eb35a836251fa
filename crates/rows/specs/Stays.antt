-- Each operation on a row leaves the row's length as it was.
use Rattle.std.specs.Prelude.{◌≡◌, ℕ, ◌+◌, Bool, true, false, cond, List, length, slice_index_or, slice_set, refl, Float}
use Rattle.std.proofs.Common.{◌∙◌, length-set}
use Rattle.std.specs.Float.{nan}
use Rattle.std.specs.Float.Ieee.{neg}
use Rattle.laws.specs.Places.{length-map_in, length-zip_in}
use Rattle.steps.specs.Number.{zero64, minus_one64, ◌+₆₄◌, ◌*₆₄◌}
use Rattle.steps.specs.Symbol.{absent}
use Rattle.steps.specs.Row.{cell_value, insert_cell}
use Rattle.rows.specs.Table.{inserted_value, scaled_value, reversed_value, insert_symbol_at, insert_cells_in, added_constant, insert_row_in, scale_cells_in, solve_factor, solve_start, solve_row_in, solve_for_symbols_in, reverse_sign_in, substitute_row_in, substitute_cells_in, shift_constant_in}

-- ---- lengths

pub length-insert_symbol_at : (cutoff : Float) (at : ℕ) (k : Float) (row : List Float) → length (insert_symbol_at cutoff at k row) ≡ length row
unfolding insert_symbol_at
length-insert_symbol_at cutoff at k row = length-set row at (cell_value (insert_cell cutoff (slice_index_or row at nan) k))

pub length-insert_cells_in : (cutoff k : Float) (n : ℕ) (other row : List Float) → length (insert_cells_in cutoff k n other row) ≡ length row
unfolding insert_cells_in
length-insert_cells_in cutoff k n other row = length-zip_in (inserted_value cutoff k) 1 (1 + n) row other

pub length-insert_row_in : (cutoff k : Float) (n : ℕ) (other row : List Float) → length (insert_row_in cutoff k n other row) ≡ length row
unfolding insert_row_in
length-insert_row_in cutoff k n other row = length-insert_cells_in cutoff k n other (slice_set row 0 (added_constant k other row)) ∙ length-set row 0 (added_constant k other row)

length-solve_start : (at : ℕ) (row : List Float) → length (solve_start at row) ≡ length row
unfolding solve_start
length-solve_start at row = length-set (slice_set row 0 (slice_index_or row 0 nan *₆₄ solve_factor at row)) at zero64 ∙ length-set row 0 (slice_index_or row 0 nan *₆₄ solve_factor at row)

pub length-solve_row_in : (at n : ℕ) (row : List Float) → length (solve_row_in at n row) ≡ length row
unfolding solve_row_in scale_cells_in
length-solve_row_in at n row = length-map_in (scaled_value (solve_factor at row)) 1 (1 + n) (solve_start at row) ∙ length-solve_start at row

pub length-solve_for_symbols_in : (cutoff : Float) (leaving entering n : ℕ) (row : List Float) → length (solve_for_symbols_in cutoff leaving entering n row) ≡ length row
unfolding solve_for_symbols_in
length-solve_for_symbols_in cutoff leaving entering n row = length-solve_row_in entering n (insert_symbol_at cutoff leaving minus_one64 row) ∙ length-insert_symbol_at cutoff leaving minus_one64 row

pub length-reverse_sign_in : (n : ℕ) (row : List Float) → length (reverse_sign_in n row) ≡ length row
unfolding reverse_sign_in
length-reverse_sign_in n row = length-map_in reversed_value 1 (1 + n) (slice_set row 0 (neg (slice_index_or row 0 nan))) ∙ length-set row 0 (neg (slice_index_or row 0 nan))

-- one of two rows, of one length
either : (f : List Float → ℕ) (b : Bool) (x y : List Float) → f y ≡ f x → f (cond b x y) ≡ f x
either f true x y h = refl
either f false x y h = h

pub length-substitute_row_in : (cutoff : Float) (at n : ℕ) (other row : List Float) → length (substitute_row_in cutoff at n other row) ≡ length row
unfolding substitute_row_in
length-substitute_row_in cutoff at n other row =
    either length (absent (slice_index_or row at nan)) row (insert_row_in cutoff (slice_index_or row at nan) n other (slice_set row at zero64)) (length-insert_row_in cutoff (slice_index_or row at nan) n other (slice_set row at zero64) ∙ length-set row at zero64)

pub length-substitute_cells_in : (cutoff : Float) (at n : ℕ) (other row : List Float) → length (substitute_cells_in cutoff at n other row) ≡ length row
unfolding substitute_cells_in
length-substitute_cells_in cutoff at n other row =
    either length (absent (slice_index_or row at nan)) row (insert_cells_in cutoff (slice_index_or row at nan) n other (slice_set row at zero64)) (length-insert_cells_in cutoff (slice_index_or row at nan) n other (slice_set row at zero64) ∙ length-set row at zero64)

pub length-shift_constant_in : (d : Float) (row : List Float) → length (shift_constant_in d row) ≡ length row
unfolding shift_constant_in
length-shift_constant_in d row = length-set row 0 (slice_index_or row 0 nan +₆₄ d)
