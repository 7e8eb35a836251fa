-- The steps' row operations on whole numbers are the theory's: a row that stands along the symbols reads as a Vec, and while the mark stays, insert, solve and substitute give the Vec that the theory gives. Assumes nothing.
use Rattle.std.specs.Prelude.{◌≡◌, refl, ◌≢◌, List, [], ◌∷◌, map, ℕ, zero, suc, ◌*◌, ◌^◌, ◌≤◌, Bool, true, false, ℤ, negsuc, nat_abs, ◌+ℤ◌, ◌-ℤ◌, ◌*ℤ◌, Float}
use Rattle.std.proofs.Common.{sym, ap₂, ◌∙◌, inl, inr, mul-le-mul, arith, lit≤}
use Rattle.std.proofs.Math.Path.{ap}
use Rattle.std.proofs.Math.IntN.{neg_ℤ}
use Rattle.laws.specs.Z.{abs-add, abs-mul, abs_neg}
use Rattle.laws.specs.exact.Whole.{IsZ, Zb, isz-to, add-z, mul-z}
use Rattle.laws.specs.Ring.{ring, v, k as κ, ◌⊞◌, ◌⊠◌, ⊟◌, ◌⊟⊟◌}
use Rattle.simplex.specs.Ord.{0ℤ, 1ℤ}
use Rattle.simplex.specs.Lin.{Vec, δ, Same?, same, other as differs, same?, δ-other, plus}
use Rattle.simplex.specs.Tab.{out}
use Rattle.simplex.specs.Cells.{solved-row}
use Rattle.steps.specs.Number.{cutoff_fits, zero64, minus_one64, cell_bound, constant_bound, objective_bound, ◌+₆₄◌, ◌*₆₄◌, ◌/₆₄◌, Mark, all_whole, worse, mark_write}
use Rattle.steps.specs.Symbol.{Symbol, is_symbol, absent, coefficient_for, clear_cell}
use Rattle.steps.specs.Row.{Row, Cell, kept, wrote, cell_values, cell_marks, insert_symbol, insert_cells, untouched, insert_symbol_in_row, insert_row, scale_cell, scale_cells, factor_mark, solve_for_symbol, solve_for_symbols}
use Rattle.steps.specs.Substitute.{substitute_in_row, substitute_in_cells}
use Rattle.simplex.specs.bridge.Nums.{zero64-z, minus_one64-z, cell_bound-z, constant_bound-z, objective_bound-z, worse-l, worse-r, write-small, absent-yes, unit-cell, factor-z}
use Rattle.simplex.specs.bridge.Rows.{Reads, NotIn, In, Up, Outside, zb-to, Sym?, sym?, up-not_in, reads-to, CellZ, CellsZ, written, insert_cells-z, insert_symbol-z, cleared, ReadsRow, Whole, Solved, is, isnt}

scale_cell-z : (b : ℕ) {c k : Float} {z q : ℤ} → b ≤ 2 ^ 53 → Zb b c z → IsZ k q → nat_abs q ≤ 1 → CellZ b (scale_cell k c) (q *ℤ z)
unfolding scale_cell
scale_cell-z b {c} {k} {z} {q} l h g u = go (absent c) refl
  where
    go : (t : Bool) → absent c ≡ t → CellZ b (elim (absent c) [ true ↦ kept c | false ↦ wrote (c *₆₄ k) ]) (q *ℤ z)
    go true e = rw e (zb-to h (absent-yes h.isz e ∙ ring (q ∷ []) (κ 0ℤ) (v 0 ⊠ κ 0ℤ) tt ∙ ap (λ (y : ℤ). q *ℤ y) (sym (absent-yes h.isz e))))
    go false e = rw e (isz-to (mul-z h.isz g (omega (arith, abs-mul z q, mul-le-mul h.small u))) (ring (z ∷ q ∷ []) (v 0 ⊠ v 1) (v 1 ⊠ v 0) tt))

pub scale_cells-z : (b : ℕ) {k : Float} {q : ℤ} → b ≤ 2 ^ 53 → IsZ k q → nat_abs q ≤ 1 → (xs : List Symbol) (cs : List Float) (f : Vec)
    → Reads b xs cs f → CellsZ b xs (scale_cells k cs) (λ j. q *ℤ f j)
unfolding scale_cells
scale_cells-z b l K u [] [] f h = tt
scale_cells-z b l K u [] (c ∷ cs) f h = absurd h
scale_cells-z b l K u (x ∷ xs) [] f h = absurd h
scale_cells-z b l K u (x ∷ xs) (c ∷ cs) f h = (scale_cell-z b l h.0 K u, scale_cells-z b l K u xs cs f h.1)

zero-b : (b : ℕ) → Zb b zero64 0ℤ
zero-b b = record { isz = zero64-z; small = omega arith }

same-away : (s : ℕ) (f : Vec) (xs : List Symbol) → NotIn s xs → (x : Symbol) → In x.id xs → f x.id ≡ cleared s f x.id
same-away s f xs m x i = ring (f x.id ∷ f s ∷ []) (v 0) (v 0 ⊟⊟ v 1 ⊠ κ 0ℤ) tt ∙ ap (λ (z : ℤ). f x.id -ℤ f s *ℤ z) (sym (δ-other (away xs m i)))
  where
    away : (xs : List Symbol) → NotIn s xs → In x.id xs → s ≢ x.id
    away [] m i = absurd i
    away (y ∷ ys) m (inl e) = λ p. m.0 (p ∙ e)
    away (y ∷ ys) m (inr i) = away ys m.1 i

pub clear_cell-z : (b s i : ℕ) (xs : List Symbol) (cs : List Float) (f : Vec) → Up i xs → Reads b xs cs f → Reads b xs (clear_cell s xs cs) (cleared s f)
unfolding clear_cell
clear_cell-z b s i [] [] f u h = tt
clear_cell-z b s i [] (c ∷ cs) f u h = absurd h
clear_cell-z b s i (x ∷ xs) [] f u h = absurd h
clear_cell-z b s i (x ∷ xs) (c ∷ cs) f u h = go (sym? s x) (clear_cell-z b s x.id xs cs f u.1 h.1)
  where
    go : Sym? s x → Reads b xs (clear_cell s xs cs) (cleared s f) → Reads b (x ∷ xs) (elim (is_symbol s x) [ true ↦ zero64 ∷ cs | false ↦ c ∷ clear_cell s xs cs ]) (cleared s f)
    go (is e p d) ih =
        rw e (
          zb-to (zero-b b) (ring (f s ∷ []) (κ 0ℤ) (v 0 ⊟⊟ v 0 ⊠ κ 1ℤ) tt ∙ ap₂ (λ (y z : ℤ). y -ℤ f s *ℤ z) (ap f p) (sym d)),
          reads-to b xs cs f (cleared s f) (same-away s f xs (up-not_in s x.id xs (omega arith) u.1)) h.1,
        )
    go (isnt e p d) ih = rw e (zb-to h.0 (ring (f x.id ∷ f s ∷ []) (v 0) (v 0 ⊟⊟ v 1 ⊠ κ 0ℤ) tt ∙ ap (λ (z : ℤ). f x.id -ℤ f s *ℤ z) (sym d)), ih)

pub coefficient-z : (b s : ℕ) (xs : List Symbol) (cs : List Float) (f : Vec) → (NotIn s xs → f s ≡ 0ℤ) → Reads b xs cs f → Zb b (coefficient_for s xs cs) (f s)
unfolding coefficient_for
coefficient-z b s [] [] f o h = zb-to (zero-b b) (sym (o tt))
coefficient-z b s [] (c ∷ cs) f o h = absurd h
coefficient-z b s (x ∷ xs) [] f o h = absurd h
coefficient-z b s (x ∷ xs) (c ∷ cs) f o h = go (sym? s x) (λ q. coefficient-z b s xs cs f q h.1)
  where
    go : Sym? s x → ((NotIn s xs → f s ≡ 0ℤ) → Zb b (coefficient_for s xs cs) (f s)) → Zb b (elim (is_symbol s x) [ true ↦ c | false ↦ coefficient_for s xs cs ]) (f s)
    go (is e p d) ih = rw e (zb-to h.0 (ap f (sym p)))
    go (isnt e p d) ih = rw e (ih (λ m. o (p, m)))

pub row-to : (xs : List Symbol) (r : Row) (f g : Vec) → ((j : ℕ) → f j ≡ g j) → ReadsRow xs r f → ReadsRow xs r g
row-to xs r f g e h = record {
  constant = zb-to h.constant (e 0);
  cells = reads-to 1024 xs r.cells f g (λ x _. e x.id) h.cells;
  outside = λ i n m. sym (e i) ∙ h.outside i n m;
}

cleared-outside : (s : ℕ) (xs : List Symbol) (f : Vec) → s ≢ 0 → Outside xs f → Outside xs (cleared s f)
cleared-outside s xs f n o i ni m = go (same? s i)
  where
    go : Same? s i → f i -ℤ f s *ℤ δ s i ≡ 0ℤ
    go (same p e) = ap₂ (λ (y z : ℤ). y -ℤ f s *ℤ z) (ap f (sym p)) e ∙ ring (f s ∷ []) (v 0 ⊟⊟ v 0 ⊠ κ 1ℤ) (κ 0ℤ) tt
    go (differs p e) = ap₂ (λ (y z : ℤ). y -ℤ f s *ℤ z) (o i ni m) e ∙ ring (f s ∷ []) (κ 0ℤ ⊟⊟ v 0 ⊠ κ 0ℤ) (κ 0ℤ) tt

cleared-zero : (s : ℕ) (f : Vec) → s ≢ 0 → f 0 ≡ cleared s f 0
cleared-zero s f n = ring (f 0 ∷ f s ∷ []) (v 0) (v 0 ⊟⊟ v 1 ⊠ κ 0ℤ) tt ∙ ap (λ (z : ℤ). f 0 -ℤ f s *ℤ z) (sym (δ-other n))

pub cleared-row : (s : ℕ) (xs : List Symbol) (r : Row) (f : Vec) → s ≢ 0 → Up 0 xs → ReadsRow xs r f
    → ReadsRow xs (record { constant = r.constant; cells = clear_cell s xs r.cells }) (cleared s f)
cleared-row s xs r f n u h = record {
  constant = zb-to h.constant (cleared-zero s f n);
  cells = clear_cell-z 1024 s 0 xs r.cells f u h.cells;
  outside = cleared-outside s xs f n h.outside;
}

pub row-cell : (s : ℕ) (xs : List Symbol) (r : Row) (f : Vec) → s ≢ 0 → ReadsRow xs r f → Zb 1024 (coefficient_for s xs r.cells) (f s)
row-cell s xs r f n h = coefficient-z 1024 s xs r.cells f (h.outside s n) h.cells

-- insert a row times k
pub insert_row-z : (cut : Float) → cutoff_fits cut ≡ true → (xs : List Symbol) (other mine : Row) (g f : Vec) {k : Float} {q : ℤ} → Zb 1024 k q → ReadsRow xs other g → ReadsRow xs mine f
    → (insert_row cut other k mine).mark ≡ all_whole → ReadsRow xs (insert_row cut other k mine).row (plus f q g)
unfolding insert_row
insert_row-z cut fits xs other mine g f {k} {q} K G h e = record {
  constant = record { isz = sum; small = write-small constant_bound-z sum (worse-l (mark_write constant_bound (mine.constant +₆₄ other.constant *₆₄ k)) (cell_marks cell_bound (insert_cells cut k other.cells mine.cells)) e) };
  cells = written 1024 cell_bound cell_bound-z xs (insert_cells cut k other.cells mine.cells) (plus f q g)
      (insert_cells-z cut fits 1024 1024 1024 K (lit≤ tt) xs other.cells mine.cells g f G.cells h.cells)
      (worse-r (mark_write constant_bound (mine.constant +₆₄ other.constant *₆₄ k)) (cell_marks cell_bound (insert_cells cut k other.cells mine.cells)) e);
  outside = λ i n m. ap₂ (λ (y z : ℤ). y +ℤ q *ℤ z) (h.outside i n m) (G.outside i n m) ∙ ring (q ∷ []) (κ 0ℤ ⊞ v 0 ⊠ κ 0ℤ) (κ 0ℤ) tt;
}
  where
    product : nat_abs (g 0 *ℤ q) ≤ 2 ^ 30 * 1024
    product = omega (arith, abs-mul (g 0) q, mul-le-mul G.constant.small K.small)

    sum : IsZ (mine.constant +₆₄ other.constant *₆₄ k) (f 0 +ℤ q *ℤ g 0)
    sum =
        isz-to (add-z h.constant.isz (mul-z G.constant.isz K.isz (omega (arith, product))) (omega (arith, product, h.constant.small, abs-add (f 0) (g 0 *ℤ q))))
        (ring (f 0 ∷ g 0 ∷ q ∷ []) (v 0 ⊞ v 1 ⊠ v 2) (v 0 ⊞ v 2 ⊠ v 1) tt)

-- substitute s by the row that reads g
pub substitute_in_row-z : (cut : Float) → cutoff_fits cut ≡ true → (s : ℕ) (xs : List Symbol) (other mine : Row) (g f : Vec) → s ≢ 0 → Up 0 xs → ReadsRow xs other g → ReadsRow xs mine f
    → Whole xs (plus (cleared s f) (f s) g) (substitute_in_row cut s xs other mine)
unfolding substitute_in_row untouched
substitute_in_row-z cut fits s xs other mine g f n u G h = go (absent (coefficient_for s xs mine.cells)) refl
  where
    mine' : Row
    mine' = record { constant = mine.constant; cells = clear_cell s xs mine.cells }

    cell : Zb 1024 (coefficient_for s xs mine.cells) (f s)
    cell = row-cell s xs mine f n h

    nothing : f s ≡ 0ℤ → (j : ℕ) → f j ≡ cleared s f j +ℤ f s *ℤ g j
    nothing z j = ring (f j ∷ δ s j ∷ g j ∷ []) (v 0) (v 0 ⊟⊟ κ 0ℤ ⊠ v 1 ⊞ κ 0ℤ ⊠ v 2) tt ∙ ap (λ (y : ℤ). f j -ℤ y *ℤ δ s j +ℤ y *ℤ g j) (sym z)

    go : (t : Bool) → absent (coefficient_for s xs mine.cells) ≡ t
        → Whole xs (plus (cleared s f) (f s) g) (elim (absent (coefficient_for s xs mine.cells)) [ true ↦ untouched mine | false ↦ insert_row cut other (coefficient_for s xs mine.cells) (record { constant = mine.constant; cells = clear_cell s xs mine.cells }) ])
    go true e = rw e (λ _. row-to xs mine f (plus (cleared s f) (f s) g) (nothing (absent-yes cell.isz e)) h)
    go false e = rw e (λ m. insert_row-z cut fits xs other mine' g (cleared s f) cell G (cleared-row s xs mine f n u h) m)

-- ---- the objective's cells
pub substitute_in_cells-z : (cut : Float) → cutoff_fits cut ≡ true → (s : ℕ) (xs : List Symbol) (other mine : List Float) (g f : Vec) → s ≢ 0 → Up 0 xs → Reads 1024 xs other g → Reads (2 ^ 40) xs mine f → Outside xs f
    → cell_marks objective_bound (substitute_in_cells cut s xs other mine) ≡ all_whole → Reads (2 ^ 40) xs (cell_values (substitute_in_cells cut s xs other mine)) (plus (cleared s f) (f s) g)
unfolding substitute_in_cells
substitute_in_cells-z cut fits s xs other mine g f n u G h o m = written (2 ^ 40) objective_bound objective_bound-z xs (substitute_in_cells cut s xs other mine) (plus (cleared s f) (f s) g) (go (absent (coefficient_for s xs mine)) refl) m
  where
    cell : Zb (2 ^ 40) (coefficient_for s xs mine) (f s)
    cell = coefficient-z (2 ^ 40) s xs mine f (o s n) h

    all-kept : (xs : List Symbol) (cs : List Float) (f : Vec) → Reads (2 ^ 40) xs cs f → CellsZ (2 ^ 40) xs (map kept cs) f
    all-kept [] [] f h = tt
    all-kept [] (c ∷ cs) f h = absurd h
    all-kept (x ∷ xs) [] f h = absurd h
    all-kept (x ∷ xs) (c ∷ cs) f h = (h.0, all-kept xs cs f h.1)

    nothing : f s ≡ 0ℤ → (j : ℕ) → f j ≡ cleared s f j +ℤ f s *ℤ g j
    nothing z j = ring (f j ∷ δ s j ∷ g j ∷ []) (v 0) (v 0 ⊟⊟ κ 0ℤ ⊠ v 1 ⊞ κ 0ℤ ⊠ v 2) tt ∙ ap (λ (y : ℤ). f j -ℤ y *ℤ δ s j +ℤ y *ℤ g j) (sym z)

    go : (t : Bool) → absent (coefficient_for s xs mine) ≡ t
        → CellsZ (2 ^ 40) xs (elim (absent (coefficient_for s xs mine)) [ true ↦ map kept mine | false ↦ insert_cells cut (coefficient_for s xs mine) other (clear_cell s xs mine) ]) (plus (cleared s f) (f s) g)
    go true e = rw e (all-kept xs mine (plus (cleared s f) (f s) g) (reads-to (2 ^ 40) xs mine f (plus (cleared s f) (f s) g) (λ x _. nothing (absent-yes cell.isz e) x.id) h))
    go false e = rw e (insert_cells-z cut fits (2 ^ 40) 1024 (2 ^ 40) cell (lit≤ tt) xs other (clear_cell s xs mine) g (cleared s f) G (clear_cell-z (2 ^ 40) s 0 xs mine f u h))

-- ---- insert a symbol; solve
pub insert_symbol_in_row-z : (cut : Float) → cutoff_fits cut ≡ true → (s : ℕ) (xs : List Symbol) (mine : Row) (f : Vec) {k : Float} {q : ℤ} → s ≢ 0 → In s xs → IsZ k q → nat_abs q ≤ 1024 → ReadsRow xs mine f
    → Whole xs (plus f q (δ s)) (insert_symbol_in_row cut s k xs mine)
unfolding insert_symbol_in_row
insert_symbol_in_row-z cut fits s xs mine f {k} {q} n i K l h e = record {
  constant = zb-to h.constant (ring (f 0 ∷ q ∷ []) (v 0) (v 0 ⊞ v 1 ⊠ κ 0ℤ) tt ∙ ap (λ (z : ℤ). f 0 +ℤ q *ℤ z) (sym (δ-other n)));
  cells = written 1024 cell_bound cell_bound-z xs (insert_symbol cut s k xs mine.cells) (plus f q (δ s)) (insert_symbol-z cut fits 1024 s K (omega arith) xs mine.cells f h.cells) e;
  outside = λ j nj m. ap₂ (λ (y z : ℤ). y +ℤ q *ℤ z) (h.outside j nj m) (δ-other (away xs i j m)) ∙ ring (q ∷ []) (κ 0ℤ ⊞ v 0 ⊠ κ 0ℤ) (κ 0ℤ) tt;
}
  where
    away : (xs : List Symbol) → In s xs → (j : ℕ) → NotIn j xs → s ≢ j
    away [] i j m = absurd i
    away (x ∷ xs) (inl e) j m = λ p. m.0 (sym p ∙ e)
    away (x ∷ xs) (inr i) j m = away xs i j m.1

unit-small : (c : ℤ) → c *ℤ c ≡ 1ℤ → nat_abs (neg_ℤ c) ≤ 1
unit-small c e = omega (arith, abs_neg c, one (nat_abs c) (sym (abs-mul c c) ∙ ap nat_abs e))
  where
    one : (k : ℕ) → k * k ≡ 1 → k ≤ 1
    one zero o = omega arith
    one (suc k) o = omega arith

module _ (s : ℕ) (xs : List Symbol) (mine : Row) (f : Vec) (n : s ≢ 0) (u : Up 0 xs) (h : ReadsRow xs mine f) where
  abbrev factor : Float
  factor = minus_one64 /₆₄ coefficient_for s xs mine.cells

  abbrev scaled : List Cell
  scaled = scale_cells factor (clear_cell s xs mine.cells)

  cell : Zb 1024 (coefficient_for s xs mine.cells) (f s)
  cell = row-cell s xs mine f n h

  less : ReadsRow xs (record { constant = mine.constant; cells = clear_cell s xs mine.cells }) (cleared s f)
  less = cleared-row s xs mine f n u h

  total : f s *ℤ f s ≡ 1ℤ → IsZ (mine.constant *₆₄ factor) (neg_ℤ (f s) *ℤ cleared s f 0)
  total unit =
      isz-to (mul-z less.constant.isz (factor-z cell.isz unit) (omega (arith, abs-mul (cleared s f 0) (neg_ℤ (f s)), mul-le-mul less.constant.small (unit-small (f s) unit))))
      (ring (cleared s f 0 ∷ f s ∷ []) (v 0 ⊠ (⊟ v 1)) ((⊟ v 1) ⊠ v 0) tt)

  solved-by : f s *ℤ f s ≡ 1ℤ → worse (mark_write constant_bound (mine.constant *₆₄ factor)) (cell_marks cell_bound scaled) ≡ all_whole
      → ReadsRow xs (record { constant = mine.constant *₆₄ factor; cells = cell_values scaled }) (λ j. neg_ℤ (f s) *ℤ cleared s f j)
  solved-by unit marks = record {
    constant = record { isz = total unit; small = write-small constant_bound-z (total unit) (worse-l (mark_write constant_bound (mine.constant *₆₄ factor)) (cell_marks cell_bound scaled) marks) };
    cells = written 1024 cell_bound cell_bound-z xs scaled (λ j. neg_ℤ (f s) *ℤ cleared s f j)
        (scale_cells-z 1024 (lit≤ tt) (factor-z cell.isz unit) (unit-small (f s) unit) xs (clear_cell s xs mine.cells) (cleared s f) less.cells)
        (worse-r (mark_write constant_bound (mine.constant *₆₄ factor)) (cell_marks cell_bound scaled) marks);
    outside = λ i ni m. ap (λ (z : ℤ). neg_ℤ (f s) *ℤ z) (less.outside i ni m) ∙ ring (f s ∷ []) ((⊟ v 0) ⊠ κ 0ℤ) (κ 0ℤ) tt;
  }

  pub solve_for_symbol-z : (solve_for_symbol s xs mine).mark ≡ all_whole → Solved s xs f (solve_for_symbol s xs mine)
  unfolding solve_for_symbol
  solve_for_symbol-z e =
      let rest : Mark = worse (mark_write constant_bound (mine.constant *₆₄ factor)) (cell_marks cell_bound scaled) in
      let one = unit-cell factor cell.isz (worse-l (factor_mark (coefficient_for s xs mine.cells) factor) rest e) in
      record { unit = one; row = solved-by one (worse-r (factor_mark (coefficient_for s xs mine.cells) factor) rest e) }

-- "insert its old symbol with -1, solve for entering": the theory's row of the entering column
module _ (cut : Float) (fits : cutoff_fits cut ≡ true) (l e : ℕ) (xs : List Symbol) (mine : Row) (f : Vec) (nl : l ≢ 0) (ne : e ≢ 0) (le : l ≢ e) (i : In l xs) (u : Up 0 xs) (h : ReadsRow xs mine f) where
  abbrev less_own : Vec
  less_own = plus f (negsuc 0) (δ l)

  at-e : less_own e ≡ f e
  at-e = ap (λ (z : ℤ). f e +ℤ negsuc 0 *ℤ z) (δ-other le) ∙ ring (f e ∷ []) (v 0 ⊞ κ (negsuc 0) ⊠ κ 0ℤ) (v 0) tt

  pub solve_for_symbols-z : (solve_for_symbols cut l e xs mine).mark ≡ all_whole
      → (f e *ℤ f e ≡ 1ℤ) × ReadsRow xs (solve_for_symbols cut l e xs mine).row (out e (f e) (plus f (negsuc 0) (δ l)) (δ e))
  unfolding solve_for_symbols
  solve_for_symbols-z m =
      let row' : Row = (insert_symbol_in_row cut l minus_one64 xs mine).row in
      let m1 : Mark = (insert_symbol_in_row cut l minus_one64 xs mine).mark in
      let m2 : Mark = (solve_for_symbol e xs (insert_symbol_in_row cut l minus_one64 xs mine).row).mark in
      let inserted = insert_symbol_in_row-z cut fits l xs mine f nl i minus_one64-z (lit≤ tt) h (worse-l m1 m2 m) in
      let solved = solve_for_symbol-z e xs row' less_own ne u inserted (worse-r m1 m2 m) in
      let one : f e *ℤ f e ≡ 1ℤ = ap (λ (z : ℤ). z *ℤ z) (sym at-e) ∙ solved.unit in (
        one,
        row-to xs (solve_for_symbol e xs row').row (λ j. neg_ℤ (less_own e) *ℤ cleared e less_own j) (out e (f e) less_own (δ e))
            (λ j. ap (λ (z : ℤ). neg_ℤ z *ℤ (less_own j -ℤ z *ℤ δ e j)) at-e ∙ solved-row e (f e) less_own j at-e one) solved.row,
      )
