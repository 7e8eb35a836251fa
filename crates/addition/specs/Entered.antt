-- A row solved for its subject enters: the tables read as the steps' add_with_subject, and stand.
-- Assumes nothing.
use Rattle.std.specs.Prelude.{ℕ, ◌+◌, ◌-◌, ◌<◌, ◌≡◌, List, eqb, length, get_or, Float}
use Rattle.std.proofs.Common.{sym, ◌∙◌, subst, arith}
use Rattle.std.proofs.Math.Path.{ap}
use Rattle.std.proofs.Math.Bool.{false}
use Rattle.std.specs.Float.{nan}
use Rattle.laws.specs.Given.{then-of}
use Rattle.laws.specs.Lists.{tab, length-tab, get_or-tab}
use Rattle.laws.specs.Places.{Every, every-at, at_every}
use Rattle.steps.specs.Number.{Mark, worse}
use Rattle.steps.specs.Symbol.{Symbol}
use Rattle.steps.specs.Row.{Row, Written, solve_for_symbol}
use Rattle.steps.specs.Work.{Work, check_finite, marking}
use Rattle.steps.specs.Substitute.{enter_basis}
use Rattle.steps.specs.Add.{add_with_subject}
use Rattle.keeps.specs.Fits.{FitsW}
use Rattle.keeps.specs.Passes as passes
use Rattle.keeps.specs.Adding.{subject-fits}
use Rattle.layout.specs.Layout.{cells_of}
use Rattle.rows.specs.declared.number.Wrote.{Wrote}
use Rattle.rows.specs.Marks.{mark_of, join, joined-mark}
use Rattle.rows.specs.Place.{PlaceOf}
use Rattle.rows.specs.Table.{solve_row_in, solve_row_mark}
use Rattle.rows.specs.Reading as dense
use Rattle.layout.specs.cells.Names.{row_room}
use Rattle.sparse.specs.Places.{most_rows}
use Rattle.sparse.specs.Sparse.{Sparse, symbol_count, row_count, symbol_at, symbols_of, read}
use Rattle.sparse.specs.Widths.{symbols-read}
use Rattle.waist.specs.substituting.Loose.{SettledRow}
use Rattle.waist.specs.Working.{work_of, dense-cells, live-place}
use Rattle.waist.specs.LivePlaces.{live-symbol, not-basic}
use Rattle.waist.specs.Standing.{Standing, Makes}
use Rattle.waist.specs.Holding.{standing-worse}
use Rattle.waist.specs.Pivoting.{Fine, scale-fine, clear-fine}
use Rattle.waist.specs.Ending.{Ended, outcome_of, Goes, checked_of, checked-is}
use Rattle.addition.specs.Adding.{row_in, created_by, Fitting, Open}

-- ---- no cell of a solved row is -0.0

solved-fine : (s : ℕ) (symbols : List Symbol) (r : Row) → Every Fine r.cells → Every Fine (solve_for_symbol s symbols r).row.cells
unfolding solve_for_symbol
solved-fine s symbols r h = scale-fine _ _ (clear-fine s symbols r.cells h)

cells-fine : (k : ℕ) (row : List Float) → SettledRow k row → Every Fine (cells_of k row)
cells-fine k row h =
    rw (dense-cells k row) (at_every Fine (tab (λ x. get_or row x nan) 1 k) nan λ x l.
    let n = length-tab (λ x. get_or row x nan) 1 k in
    rw (get_or-tab (λ x. get_or row x nan) 1 k x nan (omega (arith, l, n))) (h (1 + x) (omega arith) (omega (arith, l, n))))

fine-cells : (k : ℕ) (row : List Float) → Every Fine (cells_of k row) → SettledRow k row
fine-cells k row h x low high =
    let d : Every Fine (tab (λ y. get_or row y nan) 1 k) = subst (Every Fine) (dense-cells k row) h in
    let n = length-tab (λ y. get_or row y nan) 1 k in
    let o : 1 + (x - 1) ≡ x = omega (arith, low) in
    let e : get_or (tab (λ y. get_or row y nan) 1 k) (x - 1) nan ≡ get_or row x nan = get_or-tab (λ y. get_or row y nan) 1 k (x - 1) nan (omega (arith, low, high)) ∙ ap (λ (z : ℕ). get_or row z nan) o in
    subst Fine e (every-at Fine (tab (λ y. get_or row y nan) 1 k) nan d (x - 1) (omega (arith, n, low, high)))

-- ---- the row of a subject

module _ (a : Mark) (p : ℕ) (t : Sparse) (row : List Float) (s : Fitting a t row) (o : Open p t) (long : length row ≡ row_room) where
  abbrev w : ℕ
  w = symbol_count t

  abbrev before : Work
  before = work_of false a 0 t

  abbrev solved : List Float
  solved = solve_row_in p w row

  abbrev m : Mark
  m = solve_row_mark p w row

  abbrev made : Written
  made = solve_for_symbol (symbol_at t p).id before.tableau.symbols (row_in t row)

  place : PlaceOf (symbol_at t p).id (symbols_of t) (p - 1)
  place =
      let l = o.low in
      let h = o.high in
      let e : 1 + (p - 1) ≡ p = omega (arith, l) in
      subst (λ (z : ℕ). PlaceOf (symbol_at t z).id (symbols_of t) (p - 1)) e (live-place t s.standing.sound.named (p - 1) (omega (arith, l, h)))

  solved-read : dense.written_of (row_in t solved) false m ≡ made
  unfolding work_of read
  solved-read =
      let l = o.low in
      let e : 1 + (p - 1) ≡ p = omega (arith, l) in
      let k = s.few-symbols in
      let r : dense.written_of (row_in t (solve_row_in (1 + (p - 1)) w row)) false (solve_row_mark (1 + (p - 1)) w row) ≡ solve_for_symbol (symbol_at t p).id (symbols_of t) (row_in t row) =
      dense.solve-read (symbol_at t p).id (symbols_of t) (p - 1) w row place (symbols-read t) (omega (arith, k, long)) in
      rw e at r

  solved-settled : SettledRow w solved
  unfolding dense.row_of
  solved-settled =
      fine-cells w solved (subst (λ (z : Written). Every Fine z.row.cells) (sym solved-read) (solved-fine (symbol_at t p).id before.tableau.symbols (row_in t row) (cells-fine w row s.settled)))

  abbrev entered : Work
  entered = enter_basis (symbol_at t p) made.row (marking made.mark before)

  entered-is : enter_basis (symbol_at t p) (row_in t solved) (work_of false (worse a m) 0 t) ≡ entered
  unfolding work_of marking
  entered-is = ap (λ (z : Written). enter_basis (symbol_at t p) z.row (marking z.mark before)) solved-read

  subject-open : passes.Free before (symbol_at t p)
  unfolding work_of read
  subject-open = record {
    live = live-symbol false t s.standing.sound p o.low o.high;
    free = not-basic false t s.standing.sound p o.low o.high o.free;
  }

  module _ (v u past : Wrote) {row₁ : List Float} {q : ℕ} (own : q ≡ p) (j : past ≡ join v u) (k : mark_of v ≡ a) (x : mark_of u ≡ solve_row_mark q w row) (e : row₁ ≡ solve_row_in q w row) where
    past_is : mark_of past ≡ worse a m
    past_is = joined-mark v u j k (rw own at x)

    row_is : row₁ ≡ solved
    row_is = rw own at e

    pub enter-ready : Standing false (mark_of past) t × (row_count t + 1 < most_rows) × SettledRow w row₁ × FitsW (enter_basis (symbol_at t p) (row_in t row₁) (work_of false (mark_of past) 0 t))
    enter-ready =
        let f = s.few-rows in
        rw (past_is, row_is) (
          standing-worse false a m t s.standing,
          omega (arith, f),
          solved-settled,
          subst FitsW (sym entered-is) (subject-fits (symbol_at t p) (row_in t row) before s.standing.fits s.holds subject-open),
        )

    -- the calls of the step; the tag plays no part in it
    pub subject-calls : (all : Wrote) (z : Sparse) (r : Ended) (marker other : ℕ) → Makes false false (mark_of past) (mark_of all) (enter_basis (symbol_at t p) (row_in t row₁)) t z → r ≡ checked_of 0 all
        → (outcome_of false r z ≡ add_with_subject (symbol_at t p) (created_by a marker other t row)) × Goes false r z
    unfolding add_with_subject
    subject-calls all z r marker other h c = rw c (checked-is false 0 all z ∙ ap check_finite reads, then-of _ (eqb (checked_of 0 all).number 0) (λ _. unfold checked_of in h.stands))
      where
        reads : work_of false (mark_of all) 0 z ≡ entered
        reads = h.reads 0 ∙ rw (past_is, row_is) entered-is
