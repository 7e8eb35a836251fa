-- A row's live cells as a list: the steps' lists of cells read place by place, and the loops' marks as the steps' mark of a list of cells.
use Rattle.std.specs.Prelude.{◌≡◌, ℕ, zero, suc, ◌+◌, ◌<◌, ◌≤◌, List, ◌∷◌, length, get_or, slice_index_or, slice_set, refl, Float}
use Rattle.std.proofs.Common.{sym, ap, ◌∙◌, zero-add, arith}
use Rattle.std.specs.Float.{nan}
use Rattle.laws.specs.Loops.{fold_in, fold_next, fold-last, fold2_in, fold2-next, fold2-last}
use Rattle.laws.specs.Lists.{tab, list_of, length-tab, get_or-tab}
use Rattle.laws.specs.Places.{tab-set-in, tab-set-out}
use Rattle.steps.specs.Number.{Mark, worse}
use Rattle.steps.specs.Row.{Cell, cell_value, cell_values, cell_mark, cell_marks, insert_times, insert_cells, scale_cell, scale_cells}
use Rattle.layout.specs.Layout.{cells_of}
use Rattle.rows.specs.Marks.{worse-unit, worse-assoc}

-- ---- the live cells of a row

pub length-cells : (n : ℕ) (row : List Float) → length (cells_of n row) ≡ n
unfolding cells_of list_of
length-cells n row = length-tab (λ j. get_or row (1 + j) nan) 0 n

pub cell-at : (n : ℕ) (row : List Float) (j : ℕ) (d : Float) → j < n → slice_index_or (cells_of n row) j d ≡ slice_index_or row (1 + j) nan
unfolding cells_of list_of
cell-at n row j d h =
    let e : 0 + j ≡ j = zero-add j in
    rw e at (get_or-tab (λ i. get_or row (1 + i) nan) 0 n j d h)

pub cells-set : (n : ℕ) (row : List Float) (j : ℕ) (v : Float) → j < n → n < length row → cells_of n (slice_set row (1 + j) v) ≡ slice_set (cells_of n row) j v
unfolding cells_of list_of
cells-set n row j v h k = tab-set-in row 1 n j v nan h (omega arith)

-- the constant is none of them
pub cells-constant : (n : ℕ) (row : List Float) (v : Float) → cells_of n (slice_set row 0 v) ≡ cells_of n row
unfolding cells_of list_of
cells-constant n row v = tab-set-out row 0 1 n v nan λ j h q. omega arith

-- ---- the steps' lists of cells, place by place

pub values-tab : (g : ℕ → Cell) (i n : ℕ) → cell_values (tab g i n) ≡ tab (λ j. cell_value (g j)) i n
unfolding tab cell_values
values-tab g i zero = refl
values-tab g i (suc n) = ap (λ (r : List Float). cell_value (g i) ∷ r) (values-tab g (suc i) n)

pub insert-tab : (cutoff k : Float) (o c : ℕ → Float) (i n : ℕ) → insert_cells cutoff k (tab o i n) (tab c i n) ≡ tab (λ j. insert_times cutoff k (o j) (c j)) i n
unfolding tab insert_cells
insert-tab cutoff k o c i zero = refl
insert-tab cutoff k o c i (suc n) = ap (λ (r : List Cell). insert_times cutoff k (o i) (c i) ∷ r) (insert-tab cutoff k o c (suc i) n)

pub scale-tab : (factor : Float) (c : ℕ → Float) (i n : ℕ) → scale_cells factor (tab c i n) ≡ tab (λ j. scale_cell factor (c j)) i n
unfolding tab scale_cells
scale-tab factor c i zero = refl
scale-tab factor c i (suc n) = ap (λ (r : List Cell). scale_cell factor (c i) ∷ r) (scale-tab factor c (suc i) n)

-- ---- the marks of a loop over the places from 1 + i on

pub fold-cells : (bound : Float) (g : Float → Cell) (i n : ℕ) (row : List Float) (s : Mark) → 1 + i + n ≤ length row
    → fold_in (λ (m : Mark) (c : Float). worse m (cell_mark bound (g c))) (1 + i) (1 + i + n) row s ≡ worse s (cell_marks bound (tab (λ j. g (slice_index_or row (1 + j) nan)) i n))
unfolding tab cell_marks
fold-cells bound g i zero row s h = sym (fold-last (λ (m : Mark) (c : Float). worse m (cell_mark bound (g c))) (1 + i) (1 + i + 0) row s (omega arith) refl) ∙ sym (worse-unit s)
fold-cells bound g i (suc n) row s h =
    let f : Mark → Float → Mark = λ m c. worse m (cell_mark bound (g c)) in
    let e : 1 + i + 1 ≡ 1 + suc i = omega arith in
    let e₁ : 1 + i + suc n ≡ 1 + suc i + n = omega arith in
    let turn : fold_in f (1 + i + 1) (1 + i + suc n) row (f s (slice_index_or row (1 + i) nan)) ≡ fold_in f (1 + i) (1 + i + suc n) row s =
    fold_next f (1 + i) (1 + i + suc n) row s nan (omega arith) (omega arith) refl refl in
    sym turn ∙ rw (e, e₁) (fold-cells bound g (suc i) n row (f s (slice_index_or row (1 + i) nan)) (omega arith)) ∙ worse-assoc s (cell_mark bound (g (slice_index_or row (1 + i) nan))) (cell_marks bound (tab (λ j. g (slice_index_or row (1 + j) nan)) (suc i) n))

pub fold2-cells : (bound : Float) (g : Float → Float → Cell) (i n : ℕ) (row other : List Float) (s : Mark) → 1 + i + n ≤ length row → 1 + i + n ≤ length other
    → fold2_in (λ (m : Mark) (c o : Float). worse m (cell_mark bound (g c o))) (1 + i) (1 + i + n) row other s ≡ worse s (cell_marks bound (tab (λ j. g (slice_index_or row (1 + j) nan) (slice_index_or other (1 + j) nan)) i n))
unfolding tab cell_marks
fold2-cells bound g i zero row other s h k = sym (fold2-last (λ (m : Mark) (c o : Float). worse m (cell_mark bound (g c o))) (1 + i) (1 + i + 0) row other s (omega arith) refl) ∙ sym (worse-unit s)
fold2-cells bound g i (suc n) row other s h k =
    let f : Mark → Float → Float → Mark = λ m c o. worse m (cell_mark bound (g c o)) in
    let v : Mark = f s (slice_index_or row (1 + i) nan) (slice_index_or other (1 + i) nan) in
    let e : 1 + i + 1 ≡ 1 + suc i = omega arith in
    let e₁ : 1 + i + suc n ≡ 1 + suc i + n = omega arith in
    let turn : fold2_in f (1 + i + 1) (1 + i + suc n) row other v ≡ fold2_in f (1 + i) (1 + i + suc n) row other s =
    fold2-next f (1 + i) (1 + i + suc n) row other s nan nan (omega arith) (omega arith) (omega arith) refl refl in
    sym turn ∙ rw (e, e₁) (fold2-cells bound g (suc i) n row other v (omega arith) (omega arith)) ∙ worse-assoc s (cell_mark bound (g (slice_index_or row (1 + i) nan) (slice_index_or other (1 + i) nan))) (cell_marks bound (tab (λ j. g (slice_index_or row (1 + j) nan) (slice_index_or other (1 + j) nan)) (suc i) n))
