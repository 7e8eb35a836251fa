-- The row that is being built beside the sparse tables, read as the steps' Building; and a symbol or a row inserted in it.
-- Assumes nothing.
use Rattle.std.specs.Prelude.{ℕ, ◌+◌, ◌-◌, ◌≤◌, ◌<◌, ◌≡◌, Bool, List, Float, set}
use Rattle.std.proofs.Math.Path.{refl, ap}
use Rattle.std.proofs.Common.{◌∙◌, subst, arith, get_or-set_same, get_or-set_other}
use Rattle.std.proofs.Math.Bool.{false}
use Rattle.std.specs.Float.Ieee.{nan}
use Rattle.std.proofs.Math.ListN.{length, get_or, length-set}
use Rattle.laws.specs.Lists.{tab-ext}
use Rattle.steps.specs.Number.{cell_bound, Mark, worse}
use Rattle.steps.specs.Row.{insert_symbol_in_row, insert_row}
use Rattle.steps.specs.Work.{marking}
use Rattle.steps.specs.CreateRow.{Building, written, insert_into}
use Rattle.keeps.specs.Fits.{fits-worse}
use Rattle.layout.specs.Layout.{cells_of}
use Rattle.rows.specs.declared.number.Wrote.{Wrote}
use Rattle.rows.specs.Marks.{mark_of, join, mark-join}
use Rattle.rows.specs.Table.{insert_symbol_at, insert_symbol_mark, insert_row_in, insert_row_mark}
use Rattle.rows.specs.Reading as dense
use Rattle.layout.specs.cells.Names.{row_room}
use Rattle.layout.specs.cells.Cells.{row_of, loaded}
use Rattle.layout.specs.cells.Load.{loaded-reads}
use Rattle.sparse.specs.Places.{constants_at}
use Rattle.sparse.specs.Sparse.{Sparse, symbol_count, cell_count, symbol_at, basic_of, symbols_of, read}
use Rattle.sparse.specs.Widths.{symbols-read}
use Rattle.waist.specs.Working.{work_of, cutoff_of, dense-cells, Sound, live-place}
use Rattle.waist.specs.Standing.{Standing}

unfoldable pub building_of : Mark → Sparse → List Float → Building
building_of a t row = record { work = work_of false a 0 t; row = dense.row_of (symbol_count t) row }

-- a step f of the row that is being built, from the tables t and the row `row` to the tables u and the row `row₁`
pub record Builds (before after : Mark) (f : Building → Building) (t u : Sparse) (row row₁ : List Float) : Type 0 where
  pub reads : building_of after u row₁ ≡ f (building_of before t row)
  pub stands : Standing false after u

pub stands-worse : (art : Bool) (a m : Mark) (t : Sparse) → Standing art a t → Standing art (worse a m) t
unfolding work_of
stands-worse art a m t s = record { sound = s.sound; inside = s.inside; owners = s.owners; fits = fits-worse s.fits m }

-- the mark of what is written from here on, as the code joins it
pub joined_is : (v w : Wrote) {r : Wrote} {m : Mark} → r ≡ join v w → mark_of w ≡ m → mark_of r ≡ worse (mark_of v) m
joined_is v w e q = rw (e, mark-join v w, q) refl

pub builds-mark : {a b c : Mark} {f : Building → Building} {t u : Sparse} {row row₁ : List Float} → c ≡ b → Builds a b f t u row row₁ → Builds a c f t u row row₁
builds-mark e h = rw e h

module _ (a : Mark) (t : Sparse) (s : Standing false a t) (row : List Float) (wide : length row ≡ row_room) where
  abbrev k : ℕ
  k = symbol_count t

  abbrev z : Float
  z = cutoff_of t

  fit : k < length row
  fit = let f = s.sound.named.few-symbols in omega (arith, f, wide)

  -- ---- a symbol

  symbol-reads : (j : ℕ) (x : Float) → j < k
      → building_of (worse a (insert_symbol_mark z (1 + j) x cell_bound row)) t (insert_symbol_at z (1 + j) x row) ≡ insert_into (symbol_at t (1 + j)).id x (building_of a t row)
  unfolding building_of insert_into written marking work_of read
  symbol-reads j x h =
      let e : dense.written_of (dense.row_of k (insert_symbol_at z (1 + j) x row)) false (insert_symbol_mark z (1 + j) x cell_bound row) ≡ insert_symbol_in_row z (symbol_at t (1 + j)).id x (symbols_of t) (dense.row_of k row) =
      dense.insert-symbol-read (symbol_at t (1 + j)).id (symbols_of t) j k row (live-place t s.sound.named j h) (symbols-read t) z x fit in
      rw (← e) refl

  pub symbol-builds : (p : ℕ) (x : Float) → 1 ≤ p → p ≤ k → Builds a (worse a (insert_symbol_mark z p x cell_bound row)) (insert_into (symbol_at t p).id x) t t row (insert_symbol_at z p x row)
  symbol-builds p x low high =
      let o : 1 + (p - 1) ≡ p = omega (arith, low) in
      let r : building_of (worse a (insert_symbol_mark z p x cell_bound row)) t (insert_symbol_at z p x row) ≡ insert_into (symbol_at t p).id x (building_of a t row) = subst (λ (q : ℕ). building_of (worse a (insert_symbol_mark z q x cell_bound row)) t (insert_symbol_at z q x row) ≡ insert_into (symbol_at t q).id x (building_of a t row)) o (symbol-reads (p - 1) x (omega (arith, low, high))) in
      record { reads = r; stands = stands-worse false a (insert_symbol_mark z p x cell_bound row) t s }

  -- ---- a row

  module _ (i : ℕ) (other : List Float) (other-wide : length other ≡ row_room) (is_row : dense.row_of k other ≡ (basic_of t i).row) where
    row_reads : (x : Float) → building_of (worse a (insert_row_mark z x k other row)) t (insert_row_in z x k other row) ≡ written (insert_row (building_of a t row).work.tableau.cutoff (basic_of t i).row x (building_of a t row).row) (building_of a t row).work
    unfolding building_of written marking work_of read
    row_reads x =
        let f = fit in
        rw (← is_row, ← dense.insert-row-read z x k other row f (omega (arith, f, wide, other-wide))) refl

    pub row-builds : (x : Float) → Builds a (worse a (insert_row_mark z x k other row)) (λ b. written (insert_row b.work.tableau.cutoff (basic_of t i).row x b.row) b.work) t t row (insert_row_in z x k other row)
    row-builds x = record { reads = row_reads x; stands = stands-worse false a (insert_row_mark z x k other row) t s }

-- ---- row i as it is loaded

module _ (art : Bool) (i : ℕ) (t : Sparse) (so : Sound art t) (row₀ row₁ : List Float) (wide : length row₀ ≡ row_room) (wide₁ : length row₁ ≡ row_room)
    (e : row₁ ≡ set (loaded (cell_count t) i (symbol_count t) t.keys t.values row₀) 0 (get_or t.reals (constants_at + i) nan)) where
  abbrev w : ℕ
  w = symbol_count t

  abbrev load : List Float
  load = loaded (cell_count t) i w t.keys t.values row₀

  abbrev y : Float
  y = get_or t.reals (constants_at + i) nan

  pub loaded-row : dense.row_of w row₁ ≡ (basic_of t i).row
  unfolding dense.row_of basic_of
  loaded-row =
      let n = so.named.few-symbols in
      let l = ap length e ∙ length-set load 0 y in
      let c : get_or row₁ 0 nan ≡ y = rw e (get_or-set_same load 0 y nan (omega (arith, l, wide₁))) in
      let d : cells_of w row₁ ≡ row_of t.keys t.values (cell_count t) w i =
      dense-cells w row₁
      ∙ tab-ext (λ x. get_or row₁ x nan) (λ x. get_or load x nan) 1 w (λ x a b. rw e (get_or-set_other load 0 x y nan (λ z. omega (arith, z, a))))
      ∙ loaded-reads (cell_count t) i w t.keys t.values row₀ so.held.up (omega (arith, n)) (omega (arith, n, wide)) in
      rw (c, d) refl

-- the code's writes put together
pub loaded-set : (reals : List Float) (j i : ℕ) {z l : List Float} → z ≡ l → j ≡ i → set z 0 (get_or reals (constants_at + j) nan) ≡ set l 0 (get_or reals (constants_at + i) nan)
loaded-set reals j i e q = rw (e, q) refl
