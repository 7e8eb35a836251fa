-- A symbol enters the basis, and a pivot: the tableau keeps its shape. Assumes nothing.
use Rattle.std.specs.Prelude.{◌≡◌, refl, ◌≢◌, Bool, true, false, cond, ◌&&◌, ℕ, ◌+◌, ◌≤◌, Float}
use Rattle.std.proofs.Common.{sym, ap, arith}
use mathlib.Core.List.{List, [], ◌∷◌}
use Rattle.std.proofs.Math.Option.{Option, none, some}
use Rattle.std.specs.Float.Ieee.{ne}
use Rattle.steps.specs.Number.{zero64, objective_bound, Mark, all_whole, worse}
use Rattle.steps.specs.Symbol.{Symbol, is_external}
use Rattle.steps.specs.Row.{Row, cell_marks, Written, solve_for_symbols}
use Rattle.steps.specs.State.{Basic}
use Rattle.steps.specs.Work.{Work, with_tableau, with_rows, with_objective, with_changes, with_artificial, marking, find_row, drop_row, keep_row}
use Rattle.steps.specs.Changes.{note}
use Rattle.steps.specs.Substitute.{Substituted, substitute_in_row, substitute_in_cells, substitute_in_rows, rows_of, marks_of, substitute, enter_basis, pivot}
use Rattle.keeps.specs.Lists.{All, Same?, is, isnt, same, same?, times, Up}
use Rattle.keeps.specs.Keys.{row_id, drop_row-is, drop-times, drop-gone, find-all, Row?, no_row, a-row, row?}
use Rattle.keeps.specs.Along.{ids, Mem}
use Rattle.keeps.specs.Cells.{Fine, fine-l, fine-r}
use Rattle.keeps.specs.RowOps.{RowOk, row-to, substitute_in_row-ok, substitute_in_cells-ok, solve_for_symbols-ok}
use Rattle.keeps.specs.Fits.{bids, IsBasic, ArtOk, Fits, FitsW, fits-worse, fits-drop, fits-keep}

-- ---- in all rows
pub bids-sub : (cut : Float) (s : ℕ) (xs : List Symbol) (r : Row) (bs : List Basic) → bids (rows_of (substitute_in_rows cut s xs r bs)) ≡ bids bs
unfolding rows_of substitute_in_rows
bids-sub cut s xs r [] = refl
bids-sub cut s xs r (b ∷ bs) = ap (λ (z : List ℕ). row_id b ∷ z) (bids-sub cut s xs r bs)

pub live-sub : (cut : Float) (P : Symbol → Type 0) (s : ℕ) (xs : List Symbol) (r : Row) (bs : List Basic) → All (λ (b : Basic). P b.symbol) bs
    → All (λ (b : Basic). P b.symbol) (rows_of (substitute_in_rows cut s xs r bs))
unfolding rows_of substitute_in_rows
live-sub cut P s xs r [] h = tt
live-sub cut P s xs r (b ∷ bs) h = (h.0, live-sub cut P s xs r bs h.1)

-- in the artificial objective, if one stands
written : Float → ℕ → List Symbol → Row → Option Row → Option Written
written cut s xs r a = elim a [ none ↦ none | some o ↦ some (substitute_in_row cut s xs r o) ]

art-mark : Option Written → Mark
art-mark o = elim o [ none ↦ all_whole | some a ↦ a.mark ]

art-row : Option Written → Option Row
art-row o = elim o [ none ↦ none | some a ↦ some a.row ]

module _ (cut : Float) (B C : ℕ → Type 0) (G H : Type 0) (g : H → G) (xs : List Symbol) (u : Up 1 (ids xs)) (s : ℕ) (old : (i : ℕ) → C i → s ≢ i → B i) (r : Row) (mine : RowOk C G xs r) where
  rows-sub : (bs : List Basic) → (H → Fine (marks_of (substitute_in_rows cut s xs r bs))) → All (λ (b : Basic). RowOk B G xs b.row) bs
      → All (λ (b : Basic). RowOk C H xs b.row) (rows_of (substitute_in_rows cut s xs r bs))
  unfolding rows_of substitute_in_rows marks_of
  rows-sub [] m h = tt
  rows-sub (b ∷ bs) m h = (
    substitute_in_row-ok B C G H g 1 xs u s old cut r b.row mine h.0 (λ p. fine-l (substitute_in_row cut s xs r b.row).mark (marks_of (substitute_in_rows cut s xs r bs)) (m p)),
    rows-sub bs (λ p. fine-r (substitute_in_row cut s xs r b.row).mark (marks_of (substitute_in_rows cut s xs r bs)) (m p)) h.1,
  )

  art-sub : (a : Option Row) → (H → Fine (art-mark (written cut s xs r a))) → ArtOk B G xs a → ArtOk C H xs (art-row (written cut s xs r a))
  unfolding written art-mark art-row
  art-sub none m h = tt
  art-sub (some o) m h = substitute_in_row-ok B C G H g 1 xs u s old cut r o mine h m

-- ---- the rest of Add's step 5
pub enter-fits : (s : Symbol) (r : Row) (w : Work) → FitsW w → times s.id (bids w.tableau.rows) ≡ 0 → Mem s w.tableau.symbols
    → (C : ℕ → Type 0) → ((i : ℕ) → C i → s.id ≢ i → IsBasic w.tableau.rows i) → ((i : ℕ) → 1 ≤ same i s.id + times i (bids w.tableau.rows) → C i)
    → RowOk C (Fine w.mark) w.tableau.symbols r → FitsW (enter_basis s r w)
unfolding enter_basis substitute marking with_artificial with_changes with_objective with_rows with_tableau note written art-mark art-row
enter-fits s r w f z l C old new h = go (is_external s && ne r.constant zero64)
  where
    cut : Float
    cut = w.tableau.cutoff

    xs : List Symbol
    xs = w.tableau.symbols

    bs : List Basic
    bs = w.tableau.rows

    rows : List Substituted
    rows = substitute_in_rows cut s.id xs r bs

    v : Work
    v = substitute s.id r w

    H : Type 0
    H = Fine v.mark

    rest : H → Fine (worse (marks_of rows) (worse (cell_marks objective_bound (substitute_in_cells cut s.id xs r.cells w.tableau.objective)) (art-mark (written cut s.id xs r w.artificial))))
    rest p = fine-r w.mark _ p

    g : H → Fine w.mark
    g p = fine-l w.mark _ p

    kept : Fits xs w.tableau.next_id (keep_row (record { symbol = s; row = r }) (rows_of rows)) v.tableau.objective v.artificial v.mark
    kept =
        fits-keep s r xs w.tableau.next_id (rows_of rows) v.tableau.objective v.artificial v.mark l (rw bids-sub z) f.up f.pos f.under
        (rw bids-sub f.rows-up)
        (live-sub cut (λ x. Mem x xs) s.id xs r bs f.live) C (λ i p. new i (rw bids-sub at p)) (row-to C C (Fine w.mark) H (λ i c. c) g xs r h)
        (rows-sub cut (IsBasic bs) C (Fine w.mark) H g xs f.up s.id old r h bs (λ p. fine-l (marks_of rows) _ (rest p)) f.rows)
        (substitute_in_cells-ok (IsBasic bs) C (Fine w.mark) H g 1 xs f.up s.id old cut r.cells w.tableau.objective h.1 f.objective
        (λ p. fine-l (cell_marks objective_bound _) _ (fine-r (marks_of rows) _ (rest p))))
        (art-sub cut (IsBasic bs) C (Fine w.mark) H g xs f.up s.id old r h w.artificial
        (λ p. fine-r (cell_marks objective_bound _) _ (fine-r (marks_of rows) _ (rest p))) f.artificial)

    go : (t : Bool) → FitsW (with_rows (keep_row (record { symbol = s; row = r }) (cond t (note s.id v) v).tableau.rows) (cond t (note s.id v) v))
    go true = kept
    go false = kept

-- ---- a pivot on a live symbol that isn't basic
pub pivot-fits : (l : ℕ) (e : Symbol) (w : Work) → FitsW w → times e.id (bids w.tableau.rows) ≡ 0 → Mem e w.tableau.symbols → FitsW (pivot l e w)
unfolding pivot marking with_rows with_tableau
pivot-fits l e w f z live = go (find_row l bs) (row? l bs)
  where
    xs : List Symbol
    xs = w.tableau.symbols

    bs : List Basic
    bs = w.tableau.rows

    after : Row → Work
    after row =
        let solved : Written = solve_for_symbols w.tableau.cutoff l e.id xs row in
        enter_basis e solved.row (marking solved.mark (with_rows (drop_row l bs) w))

    next : Option Row → Work
    next o = elim o [ none ↦ w | some row ↦ after row ]

    C : ℕ → Type 0
    C i = 1 ≤ same i e.id + times i (bids (drop_row l bs))

    fewer : (i : ℕ) → times i (bids (drop_row l bs)) ≤ times i (bids bs)
    fewer i = rw drop_row-is (drop-times row_id i l bs)

    other : (i : ℕ) → C i → e.id ≢ i → 1 ≤ times i (bids (drop_row l bs))
    other i c n = by (same? i e.id)
      where
        by : Same? i e.id → 1 ≤ times i (bids (drop_row l bs))
        by (is p q k) = absurd (n (sym q))
        by (isnt p q k) = omega (arith, c)

    old : (i : ℕ) → C i → e.id ≢ i → IsBasic bs i × (l ≢ i)
    old i c n = (omega (arith, other i c n, fewer i), λ q. omega (arith, other i c n, gone i q))
      where
        gone : (i : ℕ) → l ≡ i → times i (bids (drop_row l bs)) ≡ 0
        gone i q = rw (← q, drop_row-is) (drop-gone row_id 0 l bs f.rows-up)

    go : (o : Option Row) → Row? l bs o → FitsW (next o)
    go o (no_row q) = f
    go o (a-row b q) =
        let solved : Written = solve_for_symbols w.tableau.cutoff l e.id xs b.row in
        enter-fits e solved.row (marking solved.mark (with_rows (drop_row l bs) w)) (fits-worse (fits-drop f l) solved.mark)
        (omega (arith, fewer e.id)) live C other (λ i c. c)
        (solve_for_symbols-ok w.tableau.cutoff (IsBasic bs) C (Fine w.mark) (Fine (worse w.mark solved.mark)) (λ p. fine-l w.mark solved.mark p) 1 xs f.up l
        e.id old b.row
        (find-all row_id (λ (b : Basic). RowOk (IsBasic bs) (Fine w.mark) xs b.row) l bs b q f.rows) (λ p. fine-r w.mark solved.mark p))
