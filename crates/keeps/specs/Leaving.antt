-- Removal's start: the errors leave the objective, and the marker its row. Assumes nothing.
use Rattle.std.specs.Prelude.{◌≡◌, Bool, ◌&&◌, ℕ, suc, ◌+◌, ◌≤◌, length, Float}
use Rattle.std.proofs.Math.Path.{refl, subst}
use Rattle.std.proofs.Common.{sym, ap, ◌∙◌, arith}
use mathlib.Core.List.{List, [], ◌∷◌}
use Rattle.std.proofs.Math.Option.{Option, none, some}
use Rattle.std.proofs.Math.Bool.{true, false, cond}
use Rattle.std.specs.Float.Ieee.{lt, ne, neg}
use Rattle.steps.specs.Number.{zero64, objective_bound, ◌/₆₄◌, below_zero, Mark, worse}
use Rattle.steps.specs.Symbol.{Symbol, is_external, is_restricted, is_dummy, is_error, holds, coefficient_for}
use Rattle.steps.specs.Row.{Row, Cell, Written, cell_values, cell_marks, insert_symbol, insert_cells, solve_for_symbols}
use Rattle.steps.specs.State.{Basic, Tag}
use Rattle.steps.specs.Work.{Work, Outcome, refused, going, ◌>>=◌, refuse, check_finite, with_tableau, with_rows, with_objective, with_changes, with_artificial, marking, find_row, drop_row, keep_row}
use Rattle.steps.specs.Changes.{note}
use Rattle.steps.specs.CreateRow.{insert_in_objective}
use Rattle.steps.specs.Substitute.{substitute, enter_basis, pivot}
use Rattle.steps.specs.Optimise.{Candidate, smallest_ratio, negative_ratios}
use Rattle.steps.specs.Remove.{insert_row_in_objective, remove_marker_effects, remove_constraint_effects, cell_in, first_dummy_row, positive_ratios, last_external_row, get_marker_leaving_row, note_leaving, drop_marker}
use Rattle.keeps.specs.Lists.{All, Same?, is, isnt, same, same?, times, none≢some, some-injective}
use Rattle.keeps.specs.Keys.{row_id, keep_row-is, keep-times, find-all, find_none, find-times, drop-length, drop_row-is, Row?, no_row, a-row, row?}
use Rattle.keeps.specs.Along.{Along, Mem}
use Rattle.keeps.specs.Cells.{Ok, Fine, fine-l, fine-r}
use Rattle.keeps.specs.RowOps.{RowOk, cells-inserted, symbol-inserted}
use Rattle.keeps.specs.Fits.{bids, IsBasic, Fits, FitsW, fits-worse, fits-drop}
use Rattle.keeps.specs.Frame.{Frame, frame-refl, frame-trans, rows_frame, note-frame, pivot-frame, pivot-count}
use Rattle.keeps.specs.Pivots.{pivot-fits}
use Rattle.keeps.specs.Passes.{Ends, ends-bind, check-ends, After, after-refl, after-trans, smallest-all}
use Rattle.keeps.specs.Reads.{unmap}
use Rattle.keeps.specs.Places.{times-all}

-- ---- another objective
pub fits-objective : {xs : List Symbol} {next : ℕ} {bs : List Basic} {os : List Float} {a : Option Row} {m : Mark} → Fits xs next bs os a m
    → (ps : List Float) (n : Mark) → Along (Ok (IsBasic bs) (Fine (worse m n))) xs ps → Fits xs next bs ps a (worse m n)
fits-objective f ps n h =
    let g = fits-worse f n in
    record { up = g.up; pos = g.pos; under = g.under; rows-up = g.rows-up; live = g.live; rows = g.rows; objective = h; artificial = g.artificial }

pub symbol-objective : (s : ℕ) (k : Float) (w : Work) → FitsW w → times s (bids w.tableau.rows) ≡ 0 → FitsW (insert_in_objective s k w)
unfolding insert_in_objective marking with_objective with_tableau
symbol-objective s k w f z =
    fits-objective f (cell_values cells) (cell_marks objective_bound cells)
    (symbol-inserted w.tableau.cutoff (IsBasic w.tableau.rows) (Fine w.mark) (Fine (worse w.mark (cell_marks objective_bound cells))) (fine-l w.mark _)
    w.tableau.symbols objective_bound s k w.tableau.objective (λ b. omega arith) f.objective (fine-r w.mark _))
  where
    cells : List Cell
    cells = insert_symbol w.tableau.cutoff s k w.tableau.symbols w.tableau.objective

row-objective : (r : Row) (k : Float) (w : Work) → FitsW w → RowOk (IsBasic w.tableau.rows) (Fine w.mark) w.tableau.symbols r
    → FitsW (insert_row_in_objective r k w)
unfolding insert_row_in_objective marking with_objective with_tableau
row-objective r k w f h =
    fits-objective f (cell_values cells) (cell_marks objective_bound cells)
    (cells-inserted w.tableau.cutoff (IsBasic w.tableau.rows) (Fine w.mark) (Fine (worse w.mark (cell_marks objective_bound cells))) (fine-l w.mark _)
    w.tableau.symbols objective_bound k r.cells w.tableau.objective h.1 f.objective (fine-r w.mark _))
  where
    cells : List Cell
    cells = insert_cells w.tableau.cutoff k r.cells w.tableau.objective

-- the objective and the mark alone change
pub record OnlyGoal (w v : Work) : Type 0 where
  pub fits : FitsW v
  pub frame : Frame w v
  pub rows : v.tableau.rows ≡ w.tableau.rows

effect : (s : Symbol) (strength : Float) (w : Work) → FitsW w → OnlyGoal w (remove_marker_effects s strength w)
unfolding remove_marker_effects
effect s strength w f = go (is_error s)
  where
    taken : Option Row → Work
    taken o = elim o [ none ↦ insert_in_objective s.id (neg strength) w | some r ↦ insert_row_in_objective r (neg strength) w ]

    by : (o : Option Row) → Row? s.id w.tableau.rows o → OnlyGoal w (taken o)
    by o (no_row q) =
        record {
          fits = symbol-objective s.id (neg strength) w f (find_none row_id s.id w.tableau.rows q);
          frame = unfold insert_in_objective marking with_objective with_tableau in record { symbols = refl; next = refl; variables = refl; plain = λ e. e; cutoff = refl; gone = refl };
          rows = unfold insert_in_objective marking with_objective with_tableau in refl;
        }
    by o (a-row b q) =
        record {
          fits =
              row-objective b.row (neg strength) w f
              (find-all row_id (λ (b : Basic). RowOk (IsBasic w.tableau.rows) (Fine w.mark) w.tableau.symbols b.row) s.id w.tableau.rows b q
              f.rows);
          frame =
              unfold insert_row_in_objective marking with_objective with_tableau in record { symbols = refl; next = refl; variables = refl; plain = λ e. e; cutoff = refl; gone = refl };
          rows = unfold insert_row_in_objective marking with_objective with_tableau in refl;
        }

    go : (t : Bool) → OnlyGoal w (elim t [ false ↦ w | true ↦ taken (find_row s.id w.tableau.rows) ])
    go false = record { fits = f; frame = frame-refl w; rows = refl }
    go true = by (find_row s.id w.tableau.rows) (row? s.id w.tableau.rows)

pub effects : (tag : Tag) (strength : Float) (w : Work) → FitsW w → OnlyGoal w (remove_constraint_effects tag strength w)
unfolding remove_constraint_effects
effects tag strength w f = go tag.other
  where
    first : Work
    first = remove_marker_effects tag.marker strength w

    one : OnlyGoal w first
    one = effect tag.marker strength w f

    go : (o : Option Symbol) → OnlyGoal w (elim o [ none ↦ first | some o ↦ remove_marker_effects o strength first ])
    go none = one
    go (some o) =
        let two : OnlyGoal first (remove_marker_effects o strength first) = effect o strength first one.fits in
        record { fits = two.fits; frame = frame-trans one.frame two.frame; rows = two.rows ∙ one.rows }

-- ---- the leaving row is one of the rows
module _ (P : Symbol → Type 0) (s : ℕ) (xs : List Symbol) where
  dummy-all : (bs : List Basic) → All (λ (b : Basic). P b.symbol) bs → (l : Symbol) → first_dummy_row s xs bs ≡ some l → P l
  unfolding first_dummy_row
  dummy-all [] h l e = absurd (none≢some e)
  dummy-all (b ∷ bs) h l e = go (is_dummy b.symbol && holds (cell_in s xs b)) e (dummy-all bs h.1 l)
    where
      go : (t : Bool) → elim t [ true ↦ some b.symbol | false ↦ first_dummy_row s xs bs ] ≡ some l → (first_dummy_row s xs bs ≡ some l → P l) → P l
      go true e ih = subst P (some-injective e) h.0
      go false e ih = ih e

  negative-all : (bs : List Basic) → All (λ (b : Basic). P b.symbol) bs → All (λ (c : Candidate). P c.symbol) (negative_ratios s xs bs)
  unfolding negative_ratios
  negative-all [] h = tt
  negative-all (b ∷ bs) h = go (is_restricted b.symbol && below_zero (coefficient_for s xs b.row.cells)) (negative-all bs h.1)
    where
      go : (t : Bool) → All (λ (c : Candidate). P c.symbol) (negative_ratios s xs bs)
          → All (λ (c : Candidate). P c.symbol)
          (elim t [
            | true ↦ record {
              symbol = b.symbol;
              ratio = neg b.row.constant /₆₄ coefficient_for s xs b.row.cells;
            } ∷ negative_ratios s xs bs
            | false ↦ negative_ratios s xs bs
          ])
      go true ih = (h.0, ih)
      go false ih = ih

  positive-all : (bs : List Basic) → All (λ (b : Basic). P b.symbol) bs → All (λ (c : Candidate). P c.symbol) (positive_ratios s xs bs)
  unfolding positive_ratios
  positive-all [] h = tt
  positive-all (b ∷ bs) h = go (is_restricted b.symbol && lt zero64 (cell_in s xs b)) (positive-all bs h.1)
    where
      go : (t : Bool) → All (λ (c : Candidate). P c.symbol) (positive_ratios s xs bs)
          → All (λ (c : Candidate). P c.symbol)
          (elim t [ true ↦ record { symbol = b.symbol; ratio = b.row.constant /₆₄ cell_in s xs b } ∷ positive_ratios s xs bs | false ↦ positive_ratios s xs bs ])
      go true ih = (h.0, ih)
      go false ih = ih

  external-all : (last : Option Symbol) (bs : List Basic) → ((l : Symbol) → last ≡ some l → P l) → All (λ (b : Basic). P b.symbol) bs → (l : Symbol)
      → last_external_row s xs last bs ≡ some l → P l
  unfolding last_external_row
  external-all last [] k h l e = k l e
  external-all last (b ∷ bs) k h l e =
      external-all (cond (is_external b.symbol && holds (cell_in s xs b)) (some b.symbol) last) bs (go (is_external b.symbol && holds (cell_in s xs b)))
      h.1 l e
    where
      go : (t : Bool) (l : Symbol) → cond t (some b.symbol) last ≡ some l → P l
      go true l e = subst P (some-injective e) h.0
      go false l e = k l e

pub leaving-all : (P : Symbol → Type 0) (s : ℕ) (w : Work) → All (λ (b : Basic). P b.symbol) w.tableau.rows → (l : Symbol) → get_marker_leaving_row s w ≡ some l → P l
unfolding get_marker_leaving_row
leaving-all P s w h l e =
    rank1 (first_dummy_row s xs bs) (smallest_ratio (negative_ratios s xs bs)) (smallest_ratio (positive_ratios s xs bs)) (dummy-all P s xs bs h l)
    (smallest-all P (negative_ratios s xs bs) (negative-all P s xs bs h) l) (smallest-all P (positive_ratios s xs bs) (positive-all P s xs bs h) l) e
  where
    xs : List Symbol
    xs = w.tableau.symbols

    bs : List Basic
    bs = w.tableau.rows

    rank1 : (d n p : Option Symbol) → (d ≡ some l → P l) → (n ≡ some l → P l) → (p ≡ some l → P l)
        → elim d [ some b ↦ some b | none ↦ elim n [ some b ↦ some b | none ↦ elim p [ some b ↦ some b | none ↦ last_external_row s xs none bs ] ] ] ≡ some l → P l
    rank1 (some b) n p f g k e = f e
    rank1 none (some b) p f g k e = g e
    rank1 none none (some b) f g k e = k e
    rank1 none none none f g k e = external-all P s xs none bs (λ l q. absurd (none≢some q)) h l e

-- ---- the marker's row goes

-- what a pivot enters is basic
enter-basic : (s : Symbol) (r : Row) (w : Work) → 1 ≤ times s.id (bids (enter_basis s r w).tableau.rows)
unfolding enter_basis substitute marking with_artificial with_changes with_objective with_rows with_tableau note
enter-basic s r w = go (is_external s && ne r.constant zero64)
  where
    v : Work
    v = substitute s.id r w

    more : (bs : List Basic) → 1 ≤ times s.id (bids (keep_row (record { symbol = s; row = r }) bs))
    more bs = rw (keep_row-is, keep-times row_id s.id) (by (same? s.id s.id))
      where
        by : Same? s.id s.id → 1 ≤ same s.id s.id + times s.id (bids bs)
        by (is a b c) = omega arith
        by (isnt a b c) = absurd (b refl)

    go : (t : Bool) → 1 ≤ times s.id (bids (keep_row (record { symbol = s; row = r }) (cond t (note s.id v) v).tableau.rows))
    go true = more _
    go false = more _

pivot-basic : (l : ℕ) (e : Symbol) (w : Work) → 1 ≤ times l (bids w.tableau.rows) → 1 ≤ times e.id (bids (pivot l e w).tableau.rows)
unfolding pivot
pivot-basic l e w h = go (find_row l w.tableau.rows) (row? l w.tableau.rows)
  where
    after : Row → Work
    after row =
        let solved : Written = solve_for_symbols w.tableau.cutoff l e.id w.tableau.symbols row in
        enter_basis e solved.row (marking solved.mark (with_rows (drop_row l w.tableau.rows) w))

    next : Option Row → Work
    next o = elim o [ none ↦ w | some row ↦ after row ]

    go : (o : Option Row) → Row? l w.tableau.rows o → 1 ≤ times e.id (bids (next o).tableau.rows)
    go o (no_row q) = absurd (omega (arith, find_none row_id l w.tableau.rows q))
    go o (a-row b q) = enter-basic e _ _

-- one row less
pub record Dropped (w v : Work) : Type 0 where
  pub fits : FitsW v
  pub fine : Fine v.mark
  pub frame : Frame w v
  pub count : suc (length v.tableau.rows) ≡ length w.tableau.rows

dropped-row : (m : ℕ) (w v : Work) → After w v → 1 ≤ times m (bids v.tableau.rows) → Dropped w (with_rows (drop_row m v.tableau.rows) v)
unfolding with_rows with_tableau
dropped-row m w v a h =
    record {
      fits = fits-drop a.fits m;
      fine = a.fine;
      frame = frame-trans a.frame (rows_frame (drop_row m v.tableau.rows) v);
      count = go (find_row m v.tableau.rows) (row? m v.tableau.rows) ∙ a.count;
    }
  where
    go : (o : Option Row) → Row? m v.tableau.rows o → suc (length (drop_row m v.tableau.rows)) ≡ length v.tableau.rows
    go o (no_row q) = absurd (omega (arith, find_none row_id m v.tableau.rows q))
    go o (a-row b q) = ap suc (ap length (drop_row-is m v.tableau.rows)) ∙ sym (drop-length row_id m v.tableau.rows b q)

noted : (s : Symbol) (w : Work) → FitsW w → Fine w.mark
    → After w (note_leaving s w) × ((note_leaving s w).tableau.rows ≡ w.tableau.rows) × ((note_leaving s w).tableau.symbols ≡ w.tableau.symbols)
unfolding note_leaving
noted s w f m = go (find_row s.id w.tableau.rows)
  where
    next : Option Row → Work
    next o = elim o [ none ↦ w | some r ↦ cond (is_external s && ne r.constant zero64) (note s.id w) w ]

    by : (t : Bool)
        → After w (cond t (note s.id w) w) × ((cond t (note s.id w) w).tableau.rows ≡ w.tableau.rows) × ((cond t (note s.id w) w).tableau.symbols ≡ w.tableau.symbols)
    by true = unfold note with_changes in (record { fits = f; fine = m; frame = note-frame s.id w; count = refl }, refl, refl)
    by false = (after-refl w f m, refl, refl)

    go : (o : Option Row) → After w (next o) × ((next o).tableau.rows ≡ w.tableau.rows) × ((next o).tableau.symbols ≡ w.tableau.symbols)
    go none = (after-refl w f m, refl, refl)
    go (some r) = by (is_external s && ne r.constant zero64)

pub drop_marker-ends : (m : Symbol) (w : Work) → FitsW w → Fine w.mark → Mem m w.tableau.symbols → Ends (Dropped w) (drop_marker m w)
unfolding drop_marker refuse
drop_marker-ends m w f fine live = go (find_row m.id bs) (row? m.id bs)
  where
    bs : List Basic
    bs = w.tableau.rows

    step : Symbol → Outcome Work
    step leaving = check_finite (pivot leaving.id m (note_leaving leaving w)) >>= λ v. going (with_rows (drop_row m.id v.tableau.rows) v)

    by : times m.id (bids bs) ≡ 0 → (o : Option Symbol) → get_marker_leaving_row m.id w ≡ o
        → Ends (Dropped w) (elim o [ none ↦ refused 17 w.pivots w.mark | some leaving ↦ step leaving ])
    by z none e = tt
    by z (some l) e =
        let n : After w (note_leaving l w) × ((note_leaving l w).tableau.rows ≡ bs) × ((note_leaving l w).tableau.symbols ≡ w.tableau.symbols) = noted l w f fine in
        let x : Work = note_leaving l w in
        ends-bind (λ v. After w v × (1 ≤ times m.id (bids v.tableau.rows))) (Dropped w) (check_finite (pivot l.id m x))
        (λ v. going (with_rows (drop_row m.id v.tableau.rows) v))
        (check-ends _ (pivot l.id m x) (λ p. (after-trans n.0 (pivoted x n.0 n.1 n.2 p), pivot-basic l.id m x (rw n.1 here))))
        (λ v a. dropped-row m.id w v a.0 a.1)
      where
        here : 1 ≤ times l.id (bids bs)
        here = leaving-all (λ s. 1 ≤ times s.id (bids bs)) m.id w (unmap row_id _ bs (times-all (λ n. 1 ≤ times n (bids bs)) (bids bs) (λ n h. h))) l e

        pivoted : (x : Work) → After w x → x.tableau.rows ≡ bs → x.tableau.symbols ≡ w.tableau.symbols → Fine (pivot l.id m x).mark
            → After x (pivot l.id m x)
        pivoted x a r s p =
            record { fits = pivot-fits l.id m x a.fits (rw r z) (rw s live); fine = p; frame = pivot-frame l.id m x; count = pivot-count l.id m x }

    next : Option Row → Outcome Work
    next o =
        elim o [
          | some r ↦ going (with_rows (drop_row m.id bs) w)
          | none ↦ elim (get_marker_leaving_row m.id w) [ none ↦ refused 17 w.pivots w.mark | some leaving ↦ step leaving ]
        ]

    go : (o : Option Row) → Row? m.id bs o → Ends (Dropped w) (next o)
    go o (no_row q) = by (find_none row_id m.id bs q) (get_marker_leaving_row m.id w) refl
    go o (a-row b q) = dropped-row m.id w w (after-refl w f fine) (find-times row_id m.id bs b q)
