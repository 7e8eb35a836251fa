-- Where a row comes into the sparse tables, what they are then, and what that promises.
-- Assumes nothing.
use Rattle.std.specs.Prelude.{ℕ, ◌+◌, ◌≤◌, ◌<◌, ◌≡◌, refl, Bool, true, false, List, eqb, ltb, Float, get_or, set}
use Rattle.std.proofs.Common.{sym, subst, arith, ltb-true, ltb-false, lt-ltb, eqb-true}
use Rattle.std.specs.Float.{nan}
use Rattle.std.proofs.lemmas.Bool.{eqb-false}
use Rattle.laws.specs.Loops.{first}
use Rattle.steps.specs.Number.{Mark}
use Rattle.steps.specs.Work.{with_rows, keep_row}
use Rattle.rows.specs.Reading as dense
use Rattle.rows.specs.moves.Close as place
use Rattle.sparse.specs.Places.{symbol_count_at, row_count_at, cell_count_at, ids_at, row_places_at, constants_at}
use Rattle.sparse.specs.Sparse.{Sparse, symbol_count, row_count, cell_count, symbol_at}
use Rattle.layout.specs.cells.Cells.{Cells, opened, replaced}
use Rattle.layout.specs.cells.Seek.{first-elim}
use Rattle.waist.specs.substituting.Named.{Named}
use Rattle.waist.specs.Working.{sparse, work_of, lines_of, Sound}
use Rattle.waist.specs.Owning.{Kept}
use Rattle.waist.specs.Alone.{RowsAlone}

-- the first row whose place is past p
unfoldable pub spot_of : ℕ → ℕ → List ℕ → ℕ
spot_of p r bytes = first (λ i. ltb p (get_or bytes (row_places_at + i) 0)) (λ i. i) (1 + r) 1 (1 + r)

pub record Spot (p r : ℕ) (bytes : List ℕ) (x : ℕ) : Type 0 where
  pub from : 1 ≤ x
  pub to : x ≤ 1 + r
  pub below : (i : ℕ) → 1 ≤ i → i < x → ltb p (get_or bytes (row_places_at + i) 0) ≡ false
  pub above : x ≤ r → ltb p (get_or bytes (row_places_at + x) 0) ≡ true

pub spot_is : (p r : ℕ) (bytes : List ℕ) → Spot p r bytes (spot_of p r bytes)
unfolding spot_of
spot_is p r bytes =
    first-elim (λ i. ltb p (get_or bytes (row_places_at + i) 0)) (λ i. i) (1 + r) (Spot p r bytes) 1 (1 + r) (omega arith)
    (λ x a b e f. record { from = a; to = omega (arith, b); below = f; above = λ _. e })
    (λ f. record { from = omega arith; to = omega arith; below = f; above = λ h. absurd (omega (arith, h)) })

pub lines-between : (art : Bool) (t : Sparse) → (lines_of art t ≤ row_count t + 1) × (row_count t ≤ lines_of art t)
unfolding lines_of
lines-between true t = (omega arith, omega arith)
lines-between false t = (omega arith, omega arith)

-- the row comes to row z: the rows from there on go one up, and the artificial objective with them
unfoldable pub kept_at : ℕ → Bool → ℕ → List Float → Sparse → Sparse
kept_at z art p row t =
    let c : Cells = replaced (cell_count t) z (symbol_count t) row (opened (cell_count t) z t.keys) t.values in
    sparse (set (set t.words row_count_at (row_count t + 1)) cell_count_at c.size) c.keys (place.opened (row_places_at + z) (row_places_at + (row_count t + 1)) p t.bytes)
    (place.opened (constants_at + z) (constants_at + (lines_of art t + 1)) (get_or row 0 nan) t.reals) c.vals

pub record Keeps (art : Bool) (p : ℕ) (row : List Float) (t u : Sparse) : Type 0 where
  pub reads : (a : Mark) (v : ℕ) → work_of art a v u ≡ with_rows (keep_row (record { symbol = symbol_at t p; row = dense.row_of (symbol_count t) row }) (work_of art a v t).tableau.rows) (work_of art a v t)
  pub sound : Sound art u
  pub alone : RowsAlone t u
  pub more : row_count u ≡ row_count t + 1
  pub kept : Kept t u

-- places stand as their ids do
pub same-order : (words bytes : List ℕ) → Named words bytes → (p q : ℕ) → 1 ≤ p → p ≤ get_or words symbol_count_at 0 → 1 ≤ q → q ≤ get_or words symbol_count_at 0 → ltb p q ≡ ltb (get_or words (ids_at + p) 0) (get_or words (ids_at + q) 0)
same-order words bytes n p q a b c d = go (ltb p q) refl
  where
    not-less : (x y : ℕ) → y ≤ x → ltb x y ≡ false
    not-less x y l = by (ltb x y) refl
      where
        by : (z : Bool) → ltb x y ≡ z → z ≡ false
        by true e = absurd (omega (arith, ltb-true x y e, l))
        by false e = refl

    go : (z : Bool) → ltb p q ≡ z → z ≡ ltb (get_or words (ids_at + p) 0) (get_or words (ids_at + q) 0)
    go true e = sym (lt-ltb _ _ (n.up p q a (ltb-true p q e) d))
    go false e = sym (not-less _ _ (by (eqb p q) refl))
      where
        by : (z : Bool) → eqb p q ≡ z → get_or words (ids_at + q) 0 ≤ get_or words (ids_at + p) 0
        by true f = let o = eqb-true p q f in subst (λ (x : ℕ). get_or words (ids_at + q) 0 ≤ get_or words (ids_at + x) 0) (sym o) (omega arith)
        by false f =
            let o = eqb-false p q f in
            let l = ltb-false p q e in
            let m : q < p = omega (arith, l, o) in
            let u = n.up q p c m b in
            omega (arith, u)
