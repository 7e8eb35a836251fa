-- Which rows a suggestion shifts, by the places of its tag; and what a row gets is what the steps give it.
-- Assumes nothing.
use Rattle.std.specs.Prelude.{ℕ, ◌+◌, ◌-◌, ◌*◌, ◌≤◌, ◌≡◌, Bool, not, ◌&&◌, get_or}
use Rattle.std.proofs.Math.Path.{refl, sym, ap, subst}
use Rattle.std.proofs.Common.{◌∙◌, arith}
use Rattle.std.proofs.Math.Bool.{true, false, cond}
use mathlib.Core.List.{List}
use Rattle.std.proofs.Math.Option.{Option, none, some}
use Rattle.std.proofs.Math.Dec.{eqb}
use Rattle.std.specs.Float.Ieee.{Float, nan, neg}
use borrow.Author.Tests.{eqb-false, ne_eqb}
use Rattle.laws.specs.Lists.{tab, length-tab, get_or-tab}
use Rattle.steps.specs.Number.{◌*₆₄◌, Mark}
use Rattle.steps.specs.Symbol.{Symbol, is_symbol, absent, coefficient_for}
use Rattle.steps.specs.Row.{Row}
use Rattle.steps.specs.State.{Basic}
use Rattle.steps.specs.Work.{Work}
use Rattle.steps.specs.Edit.{is_basic_row, own_shift, cell_shift, shift_of}
use Rattle.rows.specs.choose.Choose.{Found}
use Rattle.rows.specs.choose.Choose.{on_found}
use Rattle.rows.specs.choose.Chosen.{as-cond}
use Rattle.rows.specs.choose.Steps.{picked, on_some}
use Rattle.rows.specs.Place.{PlaceOf, coefficient-at}
use Rattle.sparse.specs.Places.{row_places_at}
use Rattle.sparse.specs.Sparse.{Sparse, symbol_count, row_count, cell_count, symbol_at, other_at, basic_of, symbols_of, read}
use Rattle.sparse.specs.Widths.{symbols-read}
use Rattle.layout.specs.cells.Names.{row_span}
use Rattle.layout.specs.cells.Cells.{cell_at, row_of}
use Rattle.waist.specs.substituting.Named.{same_place}
use Rattle.waist.specs.Working.{work_of, Sound, live-place, id-at, basic-symbol}
use Rattle.waist.specs.Rows.{row_for, row-found}
use Rattle.waist.specs.Tags.{tag_at}
use Rattle.optimising.specs.declared.suggestion.shifting.Drag.{Drag}
use Rattle.optimising.specs.suggestion.Shifting.{gets, own_row, by_cells, shift_by}

abbrev pub is_found : Found → Bool
is_found f = on_found (λ _. true) false f

-- 0 is no other
unfoldable pub other_found : ℕ → List ℕ → List ℕ → Bool
other_found p words bytes = not (eqb p 0) && is_found (row_for p words bytes)

-- "Marker basic: add -delta; else other basic: add delta; else every row holding the marker gets delta times that cell."
unfoldable pub drag_of : ℕ → ℕ → Float → List ℕ → List ℕ → Drag
drag_of marker other delta words bytes =
    cond (is_found (row_for marker words bytes)) (own_row marker (neg delta)) (cond (other_found other words bytes) (own_row other delta) (by_cells marker delta))

-- ---- the branches of the code, over variables

module _ (marker other : ℕ) (delta : Float) (words bytes : List ℕ) {m : Bool} (q : m ≡ is_found (row_for marker words bytes)) where
  pub drag-marker : m ≡ true → own_row marker (neg delta) ≡ drag_of marker other delta words bytes
  unfolding drag_of
  drag-marker e = rw (← q, e) refl

  module _ {o : Bool} (e : m ≡ false) (q₁ : o ≡ other_found other words bytes) where
    pub drag-other : o ≡ true → own_row other delta ≡ drag_of marker other delta words bytes
    unfolding drag_of
    drag-other e₁ = rw (← q, e, ← q₁, e₁) refl

    pub drag-cells : o ≡ false → by_cells marker delta ≡ drag_of marker other delta words bytes
    unfolding drag_of
    drag-cells e₁ = rw (← q, e, ← q₁, e₁) refl

-- ---- what row i gets

module _ (art : Bool) (t : Sparse) (so : Sound art t) where
  abbrev gotten : Drag → ℕ → Option Float
  gotten d i = shift_by d (cell_count t) t.keys t.values (get_or t.bytes (row_places_at + i) 0) i

  same-symbol : (p i : ℕ) → 1 ≤ p → p ≤ symbol_count t → 1 ≤ i → i ≤ row_count t → is_symbol (symbol_at t p).id (basic_of t i).symbol ≡ eqb p (get_or t.bytes (row_places_at + i) 0)
  unfolding is_symbol
  same-symbol p i l h a b =
      let v = so.rows i a b in
      rw (basic-symbol t i, id-at t p, id-at t (get_or t.bytes (row_places_at + i) 0)) (sym (same_place t.words t.bytes so.named p (get_or t.bytes (row_places_at + i) 0) l h v.0 v.1))

  own_is : (p : ℕ) (x : Float) (i : ℕ) → 1 ≤ p → p ≤ symbol_count t → 1 ≤ i → i ≤ row_count t → own_shift (symbol_at t p) x (basic_of t i) ≡ gotten (own_row p x) i
  unfolding own_shift shift_by gets
  own_is p x i l h a b = as-cond (is_symbol (symbol_at t p).id (basic_of t i).symbol) (some x) none ∙ rw (same-symbol p i l h a b, ne_eqb p 0 (λ e. omega (arith, e, l))) refl

  cell-is : (p i : ℕ) → 1 ≤ p → p ≤ symbol_count t → coefficient_for (symbol_at t p).id (symbols_of t) (basic_of t i).row.cells ≡ cell_at t.keys t.values (cell_count t) (i * row_span + p)
  unfolding basic_of row_of
  cell-is p i l h =
      let o : 1 + (p - 1) ≡ p = omega (arith, l) in
      let place : PlaceOf (symbol_at t p).id (symbols_of t) (p - 1) = subst (λ (z : ℕ). PlaceOf (symbol_at t z).id (symbols_of t) (p - 1)) o (live-place t so.named (p - 1) (omega (arith, l, h))) in
      coefficient-at (symbol_at t p).id (symbols_of t) (p - 1) (tab (λ q. cell_at t.keys t.values (cell_count t) (i * row_span + q)) 1 (symbol_count t)) nan place (length-tab _ 1 (symbol_count t) ∙ sym (symbols-read t))
      ∙ get_or-tab (λ q. cell_at t.keys t.values (cell_count t) (i * row_span + q)) 1 (symbol_count t) (p - 1) nan (omega (arith, l, h))
      ∙ ap (λ (q : ℕ). cell_at t.keys t.values (cell_count t) (i * row_span + q)) o

  cells_is : (p : ℕ) (x : Float) (i : ℕ) → 1 ≤ p → p ≤ symbol_count t → cell_shift (symbol_at t p) x (symbols_of t) (basic_of t i) ≡ gotten (by_cells p x) i
  unfolding cell_shift shift_by gets
  cells_is p x i l h =
      go (coefficient_for (symbol_at t p).id (symbols_of t) (basic_of t i).row.cells) (absent (coefficient_for (symbol_at t p).id (symbols_of t) (basic_of t i).row.cells))
      ∙ ap (λ (y : Float). cond (not (absent y)) (some (x *₆₄ y)) none) (cell-is p i l h)
    where
      go : (y : Float) (b : Bool) → elim b [ true ↦ none | false ↦ some (x *₆₄ y) ] ≡ cond (not b) (some (x *₆₄ y)) none
      go y true = refl
      go y false = refl

  module _ (a : Mark) (v : ℕ) where
    abbrev w : Work
    w = work_of art a v t

    basic-is : (p : ℕ) → 1 ≤ p → p ≤ symbol_count t → is_basic_row (symbol_at t p) w ≡ is_found (row_for p t.words t.bytes)
    unfolding is_basic_row work_of read
    basic-is p l h =
        ap (λ (o : Option Row). picked (λ (r : Row). true) false o) (row-found art t so p l h)
        ∙ on_some (λ (r : Row). true) false (λ i. (basic_of t i).row) (row_for p t.words t.bytes)

    other-is : (o : ℕ) → o ≤ symbol_count t → (x : Float) (b : Basic) (c : Option Float)
        → elim (other_at t o) [ none ↦ c | some s ↦ elim (is_basic_row s w) [ true ↦ own_shift s x b | false ↦ c ] ] ≡ cond (other_found o t.words t.bytes) (own_shift (symbol_at t o) x b) c
    unfolding other_at other_found
    other-is o h x b c = go (eqb o 0) refl
      where
        go : (z : Bool) → eqb o 0 ≡ z
            → picked (λ (s : Symbol). elim (is_basic_row s w) [ true ↦ own_shift s x b | false ↦ c ]) c (cond z none (some (symbol_at t o)))
            ≡ cond (not z && is_found (row_for o t.words t.bytes)) (own_shift (symbol_at t o) x b) c
        go true e = refl
        go false e =
            let d = eqb-false o 0 e in
            as-cond (is_basic_row (symbol_at t o) w) (own_shift (symbol_at t o) x b) c ∙ ap (λ (z : Bool). cond z (own_shift (symbol_at t o) x b) c) (basic-is o (omega (arith, d)) h)

    symbols-at : w.tableau.symbols ≡ symbols_of t
    unfolding work_of read
    symbols-at = refl

    -- an own row of the other, where there is one
    other-own : (o : ℕ) → o ≤ symbol_count t → (x : Float) (i : ℕ) → 1 ≤ i → i ≤ row_count t → (c : Option Float) → cond (other_found o t.words t.bytes) (own_shift (symbol_at t o) x (basic_of t i)) c ≡ cond (other_found o t.words t.bytes) (gotten (own_row o x) i) c
    unfolding other_found
    other-own o h x i l k c = go (eqb o 0) refl
      where
        go : (z : Bool) → eqb o 0 ≡ z → cond (not z && is_found (row_for o t.words t.bytes)) (own_shift (symbol_at t o) x (basic_of t i)) c ≡ cond (not z && is_found (row_for o t.words t.bytes)) (gotten (own_row o x) i) c
        go true e = refl
        go false e = let d = eqb-false o 0 e in rw (own_is o x i (omega (arith, d)) h l k) refl

    pub shift_is : (marker other : ℕ) (delta : Float) → 1 ≤ marker → marker ≤ symbol_count t → other ≤ symbol_count t → (i : ℕ) → 1 ≤ i → i ≤ row_count t
        → shift_of (tag_at t marker other) delta w (basic_of t i) ≡ gotten (drag_of marker other delta t.words t.bytes) i
    unfolding shift_of drag_of tag_at
    shift_is marker other delta low high high₁ i l h =
        let c : Option Float = cell_shift (symbol_at t marker) delta w.tableau.symbols (basic_of t i) in
        let c₁ : c ≡ gotten (by_cells marker delta) i = ap (λ (y : List Symbol). cell_shift (symbol_at t marker) delta y (basic_of t i)) symbols-at ∙ cells_is marker delta i low high in
        as-cond (is_basic_row (symbol_at t marker) w) (own_shift (symbol_at t marker) (neg delta) (basic_of t i)) _
        ∙ rw (basic-is marker low high, other-is other high₁ delta (basic_of t i) c, other-own other high₁ delta i l h c, own_is marker (neg delta) i low high l h, c₁)
        (go (is_found (row_for marker t.words t.bytes)) (other_found other t.words t.bytes) (own_row marker (neg delta)) (own_row other delta) (by_cells marker delta))
      where
        go : (m o : Bool) (x y z : Drag) → cond m (gotten x i) (cond o (gotten y i) (gotten z i)) ≡ gotten (cond m x (cond o y z)) i
        go true o x y z = refl
        go false true x y z = refl
        go false false x y z = refl
