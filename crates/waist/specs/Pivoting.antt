-- A pivot over the sparse tables reads as the steps' `pivot`.
-- Assumes nothing.
use Rattle.std.specs.Prelude.{ℕ, zero, suc, ◌+◌, ◌-◌, ◌*◌, ◌≤◌, ◌<◌, ◌≡◌, Bool, true, List, [], ◌∷◌, ltb, Float, set}
use Rattle.std.proofs.Math.Path.{refl, sym, ap, subst}
use Rattle.std.proofs.Common.{◌∙◌, arith, get_or-set_same, get_or-set_other}
use Rattle.std.proofs.Math.Bool.{false}
use Rattle.std.proofs.Math.Option.{some}
use Rattle.std.proofs.Math.Dec.{eqb}
use Rattle.std.specs.Float.Ieee.{nan}
use Rattle.std.proofs.Math.ListN.{length, get_or, length-set}
use borrow.Author.Tests.{ltb-true, ltb-false, eq-eqb, ne_eqb}
use Rattle.laws.specs.Lists.{tab, tab-ext, length-tab, get_or-tab}
use Rattle.laws.specs.Places.{Every, every-at, at_every}
use Rattle.steps.specs.Number.{zero64, minus_one64, ◌*₆₄◌, Mark, worse}
use Rattle.steps.specs.Symbol.{Symbol, is_symbol, absent, clear_cell}
use Rattle.steps.specs.Row.{Row, kept, wrote, cell_value, cell_values, insert_cell, insert_symbol, scale_cell, scale_cells, Written, insert_symbol_in_row, solve_for_symbol, solve_for_symbols}
use Rattle.steps.specs.State.{Basic}
use Rattle.steps.specs.Work.{Work, with_tableau, with_rows, marking, find_row, drop_row}
use Rattle.steps.specs.Substitute.{enter_basis, pivot}
use Rattle.layout.specs.Layout.{cells_of}
use Rattle.rows.specs.Marks.{worse-assoc}
use Rattle.rows.specs.Place.{PlaceOf}
use Rattle.rows.specs.Table.{solve_for_symbols_in, solve_for_symbols_mark}
use Rattle.rows.specs.Reading as dense
use Rattle.sparse.specs.Places.{most_rows, row_places_at, constants_at}
use Rattle.sparse.specs.Sparse.{Sparse, symbol_count, row_count, cell_count, symbol_at, basic_of, symbols_of, basics_of, read}
use Rattle.sparse.specs.Widths.{symbols-read}
use Rattle.layout.specs.cells.Names.{row_span, row_room, last_place}
use Rattle.layout.specs.cells.Cells.{Narrow, cell_at, row_of, loaded, settled}
use Rattle.layout.specs.cells.Column.{zero-absent}
use Rattle.layout.specs.cells.Load.{loaded-reads}
use Rattle.waist.specs.merging.Merge.{Placed}
use Rattle.waist.specs.merging.Substituted.{settled-absent, settled-stored, settled-insert, cell-settled}
use Rattle.waist.specs.substituting.Loose.{SettledRow}
use Rattle.waist.specs.Working.{work_of, cutoff_of, dense-cells, Sound, live-place, id-at, basic-symbol}
use Rattle.waist.specs.Owning.{Kept, kept_then}
use Rattle.waist.specs.Dropping.{Free, Drops}
use Rattle.waist.specs.Entering.{Later, later-then, later-alone, later-symbol, later-count, Enters}

-- ---- no cell of a solved row is -0.0

abbrev pub Fine : Float → Type 0
Fine c = settled c ≡ c

scale_one : (f c : Float) → Fine c → Fine (cell_value (scale_cell f c))
unfolding scale_cell cell_value
scale_one f c h = go (absent c)
  where
    go : (b : Bool) → Fine (cell_value (elim b [ true ↦ kept c | false ↦ wrote (c *₆₄ f) ]))
    go true = h
    go false = settled-stored (c *₆₄ f)

pub scale-fine : (f : Float) (cs : List Float) → Every Fine cs → Every Fine (cell_values (scale_cells f cs))
unfolding Every scale_cells cell_values
scale-fine f [] h = tt
scale-fine f (c ∷ cs) h = (scale_one f c h.0, scale-fine f cs h.1)

pub clear-fine : (s : ℕ) (xs : List Symbol) (cs : List Float) → Every Fine cs → Every Fine (clear_cell s xs cs)
unfolding Every clear_cell
clear-fine s [] cs h = tt
clear-fine s (x ∷ xs) [] h = tt
clear-fine s (x ∷ xs) (c ∷ cs) h = go (is_symbol s x) (clear-fine s xs cs h.1)
  where
    go : (b : Bool) → Every Fine (clear_cell s xs cs) → Every Fine (elim b [ true ↦ zero64 ∷ cs | false ↦ c ∷ clear_cell s xs cs ])
    go true r = (settled-absent zero64 zero-absent, h.1)
    go false r = (h.0, r)

insert-fine : (cutoff : Float) (s : ℕ) (k : Float) (xs : List Symbol) (cs : List Float) → Every Fine cs → Every Fine (cell_values (insert_symbol cutoff s k xs cs))
unfolding Every insert_symbol cell_values cell_value
insert-fine cutoff s k [] cs h = tt
insert-fine cutoff s k (x ∷ xs) [] h = tt
insert-fine cutoff s k (x ∷ xs) (c ∷ cs) h = (go (is_symbol s x), insert-fine cutoff s k xs cs h.1)
  where
    go : (b : Bool) → Fine (cell_value (elim b [ true ↦ insert_cell cutoff c k | false ↦ kept c ]))
    go true = settled-insert cutoff c k h.0
    go false = h.0

solved-fine : (cutoff : Float) (l e : ℕ) (symbols : List Symbol) (r : Row) → Every Fine r.cells → Every Fine (solve_for_symbols cutoff l e symbols r).row.cells
unfolding solve_for_symbols solve_for_symbol insert_symbol_in_row
solved-fine cutoff l e symbols r h = scale-fine _ _ (clear-fine e symbols _ (insert-fine cutoff l minus_one64 symbols r.cells h))

-- ---- the row of a basic symbol is found

find_at : (s : ℕ) (g : ℕ → Basic) (i : ℕ) → is_symbol s (g i).symbol ≡ true → (k m : ℕ) → m ≤ i → i < m + k → ((j : ℕ) → m ≤ j → j < i → is_symbol s (g j).symbol ≡ false) → find_row s (tab g m k) ≡ some (g i).row
unfolding tab find_row
find_at s g i t zero m a b f = absurd (omega (arith, a, b))
find_at s g i t (suc k) m a b f = go (ltb m i) refl (λ l. find_at s g i t k (suc m) l (omega (arith, b)) (λ j u v. f j (omega (arith, u)) v))
  where
    go : (c : Bool) → ltb m i ≡ c → (m < i → find_row s (tab g (suc m) k) ≡ some (g i).row) → find_row s (g m ∷ tab g (suc m) k) ≡ some (g i).row
    go true e r = let l = ltb-true m i e in rw (f m (omega arith) l, find_row) (r l)
    go false e r = let o : i ≡ m = omega (arith, a, ltb-false m i e) in subst (λ (x : ℕ). find_row s (g x ∷ tab g (suc m) k) ≡ some (g i).row) o (rw (t, find_row) refl)

-- ---- the code's steps on the row that leaves, over variables

pub loaded-set : (x : Float) {z l : List Float} → z ≡ l → set z 0 x ≡ set l 0 x
loaded-set x e = ap (λ (y : List Float). set y 0 x) e

pub placed_row : (cutoff : Float) (x y q p w : ℕ) (row r : List Float) → x ≡ q → y ≡ p → r ≡ solve_for_symbols_in cutoff x y w row → r ≡ solve_for_symbols_in cutoff q p w row
placed_row cutoff x y q p w row r e f h = rw (← e, ← f) h

pub placed-mark : (cutoff : Float) (x y q p w : ℕ) (row : List Float) (m : Mark) → x ≡ q → y ≡ p → m ≡ solve_for_symbols_mark cutoff x y w row → m ≡ solve_for_symbols_mark cutoff q p w row
placed-mark cutoff x y q p w row m e f h = rw (← e, ← f) h

-- "Pivot": row i leaves, the symbol at place p enters
pub record Pivots (art : Bool) (i p : ℕ) (t u : Sparse) (m : Mark) : Type 0 where
  pub reads : (a : Mark) (v : ℕ) → work_of art (worse a m) v u ≡ pivot (symbol_at t (get_or t.bytes (row_places_at + i) 0)).id (symbol_at t p) (work_of art a v t)
  pub sound : Sound art u
  pub later : Later t u
  pub same : row_count u ≡ row_count t
  pub kept : Kept t u

pub narrow-held : (art : Bool) (t : Sparse) → Sound art t → Narrow t.keys row_room 0 (cell_count t)
unfolding Narrow Placed
narrow-held art t so j a b = let p = so.held.placed j b in omega (arith, p)

module _ (art : Bool) (i p : ℕ) (t : Sparse) (so : Sound art t) (low : 1 ≤ i) (high : i ≤ row_count t) (low₁ : 1 ≤ p) (high₁ : p ≤ symbol_count t) (free : Free p t)
    (row₀ row₁ row₂ : List Float) (lr : length row₀ ≡ row_room) (m₁ : Mark) (e₁ : row₁ ≡ set (loaded (cell_count t) i (symbol_count t) t.keys t.values row₀) 0 (get_or t.reals (constants_at + i) nan)) (l₁ : length row₁ ≡ row_room) where
  abbrev w : ℕ
  w = symbol_count t

  abbrev cutoff : Float
  cutoff = cutoff_of t

  abbrev q : ℕ
  q = get_or t.bytes (row_places_at + i) 0

  abbrev l : ℕ
  l = (symbol_at t q).id

  abbrev symbols : List Symbol
  symbols = symbols_of t

  narrow : w ≤ last_place
  narrow = so.named.few-symbols

  live : (1 ≤ q) × (q ≤ w)
  live = so.rows i low high

  abbrev load : List Float
  load = loaded (cell_count t) i w t.keys t.values row₀

  row_is : dense.row_of w row₁ ≡ (basic_of t i).row
  unfolding dense.row_of basic_of
  row_is =
      let n = narrow in
      let c : get_or row₁ 0 nan ≡ get_or t.reals (constants_at + i) nan = rw e₁ (get_or-set_same load 0 (get_or t.reals (constants_at + i) nan) nan (let k = ap length e₁ ∙ length-set load 0 (get_or t.reals (constants_at + i) nan) in omega (arith, k, l₁))) in
      let d : cells_of w row₁ ≡ row_of t.keys t.values (cell_count t) w i =
      dense-cells w row₁
      ∙ tab-ext (λ x. get_or row₁ x nan) (λ x. get_or load x nan) 1 w (λ x a b. rw e₁ (get_or-set_other load 0 x (get_or t.reals (constants_at + i) nan) nan (λ z. omega (arith, z, a))))
      ∙ loaded-reads (cell_count t) i w t.keys t.values row₀ so.held.up (omega (arith, n)) (omega (arith, n, lr)) in
      rw (c, d) refl

  place : (x : ℕ) → 1 ≤ x → x ≤ w → PlaceOf (symbol_at t x).id symbols (x - 1)
  place x a b =
      let o : 1 + (x - 1) ≡ x = omega (arith, a) in
      subst (λ (z : ℕ). PlaceOf (symbol_at t z).id symbols (x - 1)) o (live-place t so.named (x - 1) (omega (arith, a, b)))

  abbrev solved : Written
  solved = solve_for_symbols cutoff l (symbol_at t p).id symbols (basic_of t i).row

  module _ (e₂ : row₂ ≡ solve_for_symbols_in cutoff q p w row₁) (f₂ : m₁ ≡ solve_for_symbols_mark cutoff q p w row₁) where
    solved-is : dense.written_of (dense.row_of w row₂) false m₁ ≡ solved
    solved-is =
        let v = live in
        let n = narrow in
        let a : 1 + (q - 1) ≡ q = omega (arith, v) in
        let b : 1 + (p - 1) ≡ p = omega (arith, low₁) in
        let s : dense.written_of (dense.row_of w (solve_for_symbols_in cutoff (1 + (q - 1)) (1 + (p - 1)) w row₁)) false (solve_for_symbols_mark cutoff (1 + (q - 1)) (1 + (p - 1)) w row₁) ≡ solve_for_symbols cutoff l (symbol_at t p).id symbols (dense.row_of w row₁) =
        dense.solve-both-read cutoff l (symbol_at t p).id symbols (q - 1) (p - 1) w row₁ (place q v.0 v.1) (place p low₁ high₁) (symbols-read t) (omega (arith, n, l₁)) in
        rw (e₂, f₂) ((rw (a, b) at s) ∙ rw row_is refl)

    before-fine : Every Fine (basic_of t i).row.cells
    unfolding basic_of row_of cell_at
    before-fine =
        at_every Fine (tab (λ x. cell_at t.keys t.values (cell_count t) (i * row_span + x)) 1 w) nan λ x h.
        let n = length-tab (λ x. cell_at t.keys t.values (cell_count t) (i * row_span + x)) 1 w in
        rw (get_or-tab (λ x. cell_at t.keys t.values (cell_count t) (i * row_span + x)) 1 w x nan (omega (arith, h, n))) (cell-settled t.keys t.values (cell_count t) (i * row_span + (1 + x)) 0 (cell_count t) so.held.present (omega arith) (omega arith))

    after-fine : Every Fine (cells_of w row₂)
    unfolding dense.row_of
    after-fine = subst (λ (z : Written). Every Fine z.row.cells) (sym solved-is) (solved-fine cutoff l (symbol_at t p).id symbols (basic_of t i).row before-fine)

    pub solved-settled : SettledRow w row₂
    solved-settled x a b =
        let c = dense-cells w row₂ in
        let d : Every Fine (tab (λ y. get_or row₂ y nan) 1 w) = subst (Every Fine) c after-fine in
        let n = length-tab (λ y. get_or row₂ y nan) 1 w in
        let o : 1 + (x - 1) ≡ x = omega (arith, a) in
        let g : Fine (get_or (tab (λ y. get_or row₂ y nan) 1 w) (x - 1) nan) = every-at Fine (tab (λ y. get_or row₂ y nan) 1 w) nan d (x - 1) (omega (arith, n, a, b)) in
        let k : get_or (tab (λ y. get_or row₂ y nan) 1 w) (x - 1) nan ≡ get_or row₂ x nan = get_or-tab (λ y. get_or row₂ y nan) 1 w (x - 1) nan (omega (arith, a, b)) ∙ ap (λ (z : ℕ). get_or row₂ z nan) o in
        subst Fine k g

    found : find_row l (basics_of t) ≡ some (basic_of t i).row
    unfolding basics_of is_symbol
    found =
        find_at l (basic_of t) i (rw (basic-symbol t i) (eq-eqb l l refl)) (row_count t) 1 low (omega (arith, high)) (λ j a b. rw (basic-symbol t j) (apart j a b))
      where
        apart : (j : ℕ) → 1 ≤ j → j < i → eqb l (symbol_at t (get_or t.bytes (row_places_at + j) 0)).id ≡ false
        apart j a b =
            let x = so.rows j a (omega (arith, b, high)) in
            let o = so.named.up (get_or t.bytes (row_places_at + j) 0) q x.0 (so.up j i a b high) live.1 in
            ne_eqb l (symbol_at t (get_or t.bytes (row_places_at + j) 0)).id (λ e. let z = sym (id-at t q) ∙ e ∙ id-at t (get_or t.bytes (row_places_at + j) 0) in omega (arith, z, o))

    module _ {t₁ : Sparse} (d : Drops art i t t₁) where
      pub enter-ready : Sound art t₁ × (1 ≤ p) × (p ≤ symbol_count t₁) × Free p t₁ × (row_count t₁ + 1 < most_rows) × SettledRow (symbol_count t₁) row₂
      enter-ready =
          let c = later-count (later-alone d.alone) in
          let f = so.few in
          let k = d.fewer in
          (d.sound, low₁, rw c high₁, d.free p free, omega (arith, k, f, low, high), subst (λ (x : ℕ). SettledRow x row₂) (sym c) solved-settled)

      module _ {t₂ : Sparse} {m₂ : Mark} (n : Enters art p row₂ t₁ t₂ m₂) where
        abbrev W : Mark → ℕ → Work
        W a v = work_of art a v t

        dropped : (a : Mark) (v : ℕ) → work_of art (worse a m₁) v t₁ ≡ marking solved.mark (with_rows (drop_row l (W a v).tableau.rows) (W a v))
        unfolding marking with_rows with_tableau work_of
        dropped a v = d.reads (worse a m₁) v ∙ rw (ap (λ (z : Written). z.mark) solved-is) refl

        pivoted : (a : Mark) (v : ℕ) → enter_basis (symbol_at t p) solved.row (marking solved.mark (with_rows (drop_row l (W a v).tableau.rows) (W a v))) ≡ pivot l (symbol_at t p) (W a v)
        unfolding pivot work_of read
        pivoted a v = rw (found, pivot) refl

        pub pivot-calls : {m : Mark} → m ≡ worse m₁ m₂ → Pivots art i p t t₂ m
        pivot-calls {m} e = record {
          reads = λ a v.
              let near : p ≤ last_place = let h = narrow in omega (arith, h, high₁) in
              let s : symbol_at t₁ p ≡ symbol_at t p = later-symbol (later-alone d.alone) p near in
              let c : symbol_count t₁ ≡ w = later-count (later-alone d.alone) in
              let r : dense.row_of w row₂ ≡ solved.row = ap (λ (z : Written). z.row) solved-is in
              let x : worse a m ≡ worse (worse a m₁) m₂ = rw e (sym (worse-assoc a m₁ m₂)) in
              rw x (n.reads (worse a m₁) v ∙ rw (s, c, r, dropped a v) (pivoted a v));
          sound = n.sound;
          later = later-then (later-alone d.alone) n.later;
          same = let k = d.fewer in let g = n.more in omega (arith, k, g, low, high);
          kept = kept_then d.kept n.kept;
        }
