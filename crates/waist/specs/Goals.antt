-- The objective written anew over the sparse tables, and nothing else: a symbol inserted in it, or a row's cells.
-- Assumes nothing.
use Rattle.std.specs.Prelude.{ℕ, zero, suc, ◌+◌, ◌-◌, ◌≤◌, ◌<◌, ◌≡◌, Bool, true, false, eqb, Float, length, set}
use Rattle.std.proofs.Math.Path.{refl, sym, ap}
use Rattle.std.proofs.Common.{◌∙◌, subst, arith, get_or-set_same, eqb-true}
use Rattle.std.proofs.Math.Bool.{cond}
use mathlib.Core.List.{List}
use Rattle.std.proofs.Math.Option.{none, some}
use Rattle.std.specs.Float.Ieee.{nan}
use Rattle.std.proofs.Math.ListN.{get_or, length-set}
use Rattle.std.proofs.Math.Seq.{get_or-set_other}
use Rattle.std.proofs.lemmas.Bool.{eqb-false}
use Rattle.laws.specs.Loops.{run}
use Rattle.laws.specs.Lists.{tab, list_of, tab-ext, get_or-tab}
use Rattle.steps.specs.Number.{objective_bound, Mark, all_whole, worse}
use Rattle.steps.specs.Row.{Row, Cell, cell_value, cell_mark, cell_values, cell_marks, insert_cell, insert_symbol, insert_cells}
use Rattle.steps.specs.State.{Basic, Variable}
use Rattle.steps.specs.Work.{Work, with_tableau, with_objective, marking}
use Rattle.steps.specs.CreateRow.{insert_in_objective}
use Rattle.steps.specs.Remove.{insert_row_in_objective}
use Rattle.keeps.specs.Lists.{All}
use Rattle.keeps.specs.Cells.{Fine, fine-l, fine-r}
use Rattle.keeps.specs.RowOps.{RowOk, cells-inserted}
use Rattle.keeps.specs.Fits.{IsBasic, FitsW}
use Rattle.keeps.specs.Leaving.{fits-objective, symbol-objective}
use Rattle.rows.specs.declared.number.Wrote.{Wrote}
use Rattle.rows.specs.Marks.{mark_of, join, joined-mark}
use Rattle.rows.specs.Place.{PlaceOf, insert-values, insert-marks}
use Rattle.sparse.specs.Places.{constants_at, old_values_at, objective_at, cutoff_at, reals_size}
use Rattle.sparse.specs.Sparse.{Sparse, symbol_count, row_count, cell_count, variable_count, symbol_at, variable_of, basic_of, symbols_of, basics_of, objective_of, gone_of, read}
use Rattle.sparse.specs.Widths.{objective-wide}
use Rattle.layout.specs.cells.Names.{row_room}
use Rattle.layout.specs.cells.Cells.{loaded, row_of}
use Rattle.layout.specs.cells.Load.{loaded-reads}
use Rattle.waist.specs.substituting.Objective.{Aim, aim, aim_turn, objective_along, aim-cells, aim-marks, aim-beyond, aim-long}
use Rattle.waist.specs.Working.{sparse, artificial_of, work_of, cutoff_of, work-parts, lines_of, Sound, live-place}
use Rattle.waist.specs.Owning.{Owners}
use Rattle.waist.specs.Dropping.{Free}
use Rattle.waist.specs.LivePlaces.{not-basic}
use Rattle.waist.specs.Standing.{Standing, Makes}

-- the reals but for the objective stay
pub record GoalAlone (r s : List Float) : Type 0 where
  pub below : (q : ℕ) → q ≤ objective_at → get_or s q nan ≡ get_or r q nan
  pub cutoff : get_or s cutoff_at nan ≡ get_or r cutoff_at nan
  pub long : length s ≡ reals_size

module _ (art : Bool) (t : Sparse) (so : Sound art t) (s : List Float) (k : GoalAlone t.reals s) where
  abbrev u : Sparse
  u = sparse t.words t.keys t.bytes s t.values

  line : (i : ℕ) → i ≤ 1 + row_count t → basic_of u i ≡ basic_of t i
  unfolding basic_of symbol_at
  line i h = let f = so.few in rw (k.below (constants_at + i) (omega (arith, h, f))) refl

  symbols-are : symbols_of u ≡ symbols_of t
  unfolding symbols_of symbol_at
  symbols-are = refl

  rows_are : basics_of u ≡ basics_of t
  unfolding basics_of
  rows_are = tab-ext (basic_of u) (basic_of t) 1 (row_count t) λ i a b. line i (omega (arith, b))

  variable : (v : ℕ) → v < variable_count t → variable_of u v ≡ variable_of t v
  unfolding variable_of symbol_at
  variable v h = let f = so.named.few-variables in rw (k.below (old_values_at + v) (omega (arith, h, f))) refl

  changes-are : (read u).changes ≡ (read t).changes
  unfolding read list_of gone_of
  changes-are = ap (λ (x : List Variable). record { variables = x; gone = gone_of t; should_clear = (read t).changes.should_clear }) (tab-ext (variable_of u) (variable_of t) 0 (variable_count t) λ v a b. variable v (omega (arith, b)))

  artificial-is : artificial_of art u ≡ artificial_of art t
  unfolding artificial_of
  artificial-is = ap (λ (x : Row). cond art (some x) none) (ap (λ (b : Basic). b.row) (line (1 + row_count t) (omega arith)))

  goal-reads : (a m : Mark) (v : ℕ) {o : List Float} → objective_of u ≡ o → work_of art (worse a m) v u ≡ marking m (with_objective o (work_of art a v t))
  unfolding marking with_objective with_tableau
  goal-reads a m v {o} e =
      work-parts art (worse a m) v u
      ∙ rw (k.cutoff, symbols-are, rows_are, changes-are, artificial-is, e) refl
      ∙ sym (ap (λ (w : Work). marking m (with_objective o w)) (work-parts art a v t))

  goal-sound : Sound art u
  unfolding lines_of
  goal-sound = record { named = so.named; held = so.held; few = so.few; rows = so.rows; up = so.up; long = k.long }

  goal-makes : (a m : Mark) (f : Work → Work) → Standing art a t → ((v : ℕ) → work_of art (worse a m) v u ≡ f (work_of art a v t)) → FitsW (f (work_of art a 0 t)) → Makes art art a (worse a m) f t u
  goal-makes a m f s r w = record { reads = r; stands = record { sound = goal-sound; inside = s.inside; owners = owners; fits = subst FitsW (sym (r 0)) w } }
    where
      owners : Owners u
      owners = let o = s.owners in record { up = o.up; external = o.external; apart = o.apart; kinds = o.kinds; changed = o.changed; clear = o.clear }

-- ---- a symbol's cell

set-tab : (g h : ℕ → Float) (x : Float) (n i j : ℕ) → j < n → h (i + j) ≡ x → ((q : ℕ) → (q ≡ i + j → ⊥) → h q ≡ g q) → tab h i n ≡ set (tab g i n) j x
unfolding tab
set-tab g h x zero i j l e f = absurd (omega (arith, l))
set-tab g h x (suc n) i zero l e f =
    let o : i + 0 ≡ i = omega arith in
    rw ((rw o at e), tab-ext h g (suc i) n (λ q a b. f q (λ z. omega (arith, z, a)))) refl
set-tab g h x (suc n) i (suc j) l e f =
    let o : i + suc j ≡ suc i + j = omega arith in
    let r = set-tab g h x n (suc i) j (omega (arith, l)) (rw o at e) (λ q d. f q (λ z. d (omega (arith, z)))) in
    rw (f i (λ z. omega (arith, z)), r) refl

-- the cell at place p gets k
unfoldable pub symbol_goal : ℕ → Float → List Float → List Float
symbol_goal p k r = set r (objective_at + p) (cell_value (insert_cell (get_or r cutoff_at nan) (get_or r (objective_at + p) nan) k))

unfoldable pub symbol_goal_mark : ℕ → Float → List Float → Mark
symbol_goal_mark p k r = cell_mark objective_bound (insert_cell (get_or r cutoff_at nan) (get_or r (objective_at + p) nan) k)

-- the calls of the code, over variables
pub symbol-by : (p : ℕ) (k : Float) (r : List Float) (m : Mark) {l : Cell} {x : Float} {n : Mark} → l ≡ insert_cell (get_or r cutoff_at nan) (get_or r (objective_at + p) nan) k → x ≡ cell_value l → n ≡ worse m (cell_mark objective_bound l)
    → (n ≡ worse m (symbol_goal_mark p k r)) × (set r (objective_at + p) x ≡ symbol_goal p k r)
unfolding symbol_goal symbol_goal_mark
symbol-by p k r m e f g = (g ∙ rw e refl, rw (f, e) refl)

module _ (art : Bool) (t : Sparse) (so : Sound art t) (j : ℕ) (live : j < symbol_count t) (k : Float) where
  abbrev id : ℕ
  id = (symbol_at t (1 + j)).id

  abbrev cutoff : Float
  cutoff = cutoff_of t

  abbrev r : List Float
  r = symbol_goal (1 + j) k t.reals

  abbrev cells : List Cell
  cells = insert_symbol cutoff id k (symbols_of t) (objective_of t)

  place : PlaceOf id (symbols_of t) j
  place = live-place t so.named j live

  old : get_or (objective_of t) j nan ≡ get_or t.reals (objective_at + (1 + j)) nan
  unfolding objective_of
  old = get_or-tab (λ p. get_or t.reals (objective_at + p) nan) 1 (symbol_count t) j nan live

  alone : GoalAlone t.reals r
  unfolding symbol_goal
  alone = record {
    below = λ q a. get_or-set_other t.reals (objective_at + (1 + j)) q _ nan (λ e. omega (arith, e, a));
    cutoff = let f = so.named.few-symbols in get_or-set_other t.reals (objective_at + (1 + j)) cutoff_at _ nan (λ e. omega (arith, e, live, f));
    long = length-set t.reals (objective_at + (1 + j)) _ ∙ so.long;
  }

  objective-is : objective_of (u art t so r alone) ≡ cell_values cells
  unfolding objective_of symbol_goal
  objective-is =
      let l = so.long in
      let f = so.named.few-symbols in
      set-tab (λ p. get_or t.reals (objective_at + p) nan) (λ p. get_or r (objective_at + p) nan) (cell_value (insert_cell cutoff (get_or t.reals (objective_at + (1 + j)) nan) k)) (symbol_count t) 1 j live
      (get_or-set_same t.reals (objective_at + (1 + j)) _ nan (omega (arith, l, f, live)))
      (λ q d. get_or-set_other t.reals (objective_at + (1 + j)) (objective_at + q) _ nan (λ z. d (omega (arith, z))))
      ∙ sym (insert-values cutoff id k (symbols_of t) j (objective_of t) nan place (objective-wide t) ∙ rw old refl)

  mark-is : symbol_goal_mark (1 + j) k t.reals ≡ cell_marks objective_bound cells
  unfolding symbol_goal_mark
  mark-is = sym (insert-marks cutoff id k objective_bound (symbols_of t) j (objective_of t) nan place (objective-wide t) ∙ rw old refl)

  step_is : (a : Mark) (v : ℕ) → insert_in_objective id k (work_of art a v t) ≡ marking (cell_marks objective_bound cells) (with_objective (cell_values cells) (work_of art a v t))
  unfolding insert_in_objective work_of read
  step_is a v = refl

  symbol-makes : (a : Mark) → Standing art a t → Free (1 + j) t → Makes art art a (worse a (symbol_goal_mark (1 + j) k t.reals)) (insert_in_objective id k) t (u art t so r alone)
  unfolding work_of read
  symbol-makes a s free =
      rw mark-is
      (goal-makes art t so r alone a (cell_marks objective_bound cells) (insert_in_objective id k) s (λ v. goal-reads art t so r alone a (cell_marks objective_bound cells) v objective-is ∙ sym (step_is a v))
      (symbol-objective id k (work_of art a 0 t) s.fits (not-basic art t so (1 + j) (omega arith) (omega (arith, live)) free)))

pub symbol-in-objective : (art : Bool) (t : Sparse) (p : ℕ) (k : Float) (before r : Wrote) {rs : List Float} → Standing art (mark_of before) t → 1 ≤ p → p ≤ symbol_count t → Free p t
    → rs ≡ symbol_goal p k t.reals → mark_of r ≡ worse (mark_of before) (symbol_goal_mark p k t.reals)
    → Makes art art (mark_of before) (mark_of r) (insert_in_objective (symbol_at t p).id k) t (sparse t.words t.keys t.bytes rs t.values)
symbol-in-objective art t p k before r s low high free e m =
    let o : 1 + (p - 1) ≡ p = omega (arith, low) in
    rw (e, m)
    (subst (λ (x : ℕ). Makes art art (mark_of before) (worse (mark_of before) (symbol_goal_mark x k t.reals)) (insert_in_objective (symbol_at t x).id k) t (sparse t.words t.keys t.bytes (symbol_goal x k t.reals) t.values)) o
    (symbol-makes art t s.sound (p - 1) (omega (arith, low, high)) k (mark_of before) s (subst (λ (x : ℕ). Free x t) (sym o) free)))

-- ---- a row's cells

-- the cells of a dense row times k
unfoldable pub row_goal : ℕ → Float → List Float → List Float → Aim
row_goal w k row r = run (aim_turn (get_or r cutoff_at nan) k row) 1 (w + 1) (aim r all_whole)

all-tab : {A : Type 0} (P : A → Type 0) (g : ℕ → A) (k m i : ℕ) → m ≤ i → i < m + k → All P (tab g m k) → P (g i)
unfolding tab
all-tab P g zero m i a b h = absurd (omega (arith, a, b))
all-tab P g (suc k) m i a b h = go (eqb m i) refl (λ d. all-tab P g k (suc m) i d (omega (arith, b)) h.1)
  where
    go : (z : Bool) → eqb m i ≡ z → (suc m ≤ i → P (g i)) → P (g i)
    go true e r = subst (λ (x : ℕ). P (g x)) (eqb-true m i e) h.0
    go false e r = let d = eqb-false m i e in r (omega (arith, a, d))

row_fits : (row : Row) (k : Float) (w : Work) → FitsW w → RowOk (IsBasic w.tableau.rows) (Fine w.mark) w.tableau.symbols row → FitsW (insert_row_in_objective row k w)
unfolding insert_row_in_objective marking with_objective with_tableau
row_fits row k w f h =
    fits-objective f (cell_values cells) (cell_marks objective_bound cells)
    (cells-inserted w.tableau.cutoff (IsBasic w.tableau.rows) (Fine w.mark) (Fine (worse w.mark (cell_marks objective_bound cells))) (fine-l w.mark _)
    w.tableau.symbols objective_bound k row.cells w.tableau.objective h.1 f.objective (fine-r w.mark _))
  where
    cells : List Cell
    cells = insert_cells w.tableau.cutoff k row.cells w.tableau.objective

module _ (art : Bool) (t : Sparse) (so : Sound art t) (i : ℕ) (low : 1 ≤ i) (high : i ≤ row_count t) (k : Float) (row : List Float) (loads : tab (λ p. get_or row p nan) 1 (symbol_count t) ≡ row_of t.keys t.values (cell_count t) (symbol_count t) i) where
  abbrev g : Aim
  g = row_goal (symbol_count t) k row t.reals

  abbrev sums : List Cell
  sums = insert_cells (cutoff_of t) k (basic_of t i).row.cells (objective_of t)

  row-alone : GoalAlone t.reals g.reals
  unfolding row_goal
  row-alone = record {
    below = λ q a. aim-beyond (cutoff_of t) k (symbol_count t) row t.reals so.named.few-symbols so.long q (λ p b c e. omega (arith, a, b, e));
    cutoff = let f = so.named.few-symbols in aim-beyond (cutoff_of t) k (symbol_count t) row t.reals f so.long cutoff_at (λ p b c e. omega (arith, c, e, f));
    long = aim-long (cutoff_of t) k (symbol_count t) row t.reals so.named.few-symbols so.long;
  }

  row-objective-is : objective_of (u art t so g.reals row-alone) ≡ cell_values sums
  unfolding objective_of row_goal objective_along basic_of
  row-objective-is = aim-cells (cutoff_of t) k (symbol_count t) row t.reals so.named.few-symbols so.long ∙ rw loads refl

  row-mark-is : g.mark ≡ cell_marks objective_bound sums
  unfolding objective_of row_goal basic_of
  row-mark-is = aim-marks (cutoff_of t) k (symbol_count t) row t.reals so.named.few-symbols so.long ∙ rw loads refl

  row-step-is : (a : Mark) (v : ℕ) → insert_row_in_objective (basic_of t i).row k (work_of art a v t) ≡ marking (cell_marks objective_bound sums) (with_objective (cell_values sums) (work_of art a v t))
  unfolding insert_row_in_objective work_of read
  row-step-is a v = refl

  row_makes : (a : Mark) → Standing art a t → Makes art art a (worse a g.mark) (insert_row_in_objective (basic_of t i).row k) t (u art t so g.reals row-alone)
  unfolding work_of read basics_of
  row_makes a s =
      rw row-mark-is
      (goal-makes art t so g.reals row-alone a (cell_marks objective_bound sums) (insert_row_in_objective (basic_of t i).row k) s (λ v. goal-reads art t so g.reals row-alone a (cell_marks objective_bound sums) v row-objective-is ∙ sym (row-step-is a v))
      (row_fits (basic_of t i).row k (work_of art a 0 t) s.fits (all-tab _ (basic_of t) (row_count t) 1 i low (omega (arith, high)) s.fits.rows)))

pub row-in-objective : (art : Bool) (t : Sparse) (i : ℕ) (k : Float) (before o : Wrote) (row₀ row : List Float) {rs : List Float} {r : Wrote} → Standing art (mark_of before) t → 1 ≤ i → i ≤ row_count t
    → length row₀ ≡ row_room → row ≡ loaded (cell_count t) i (symbol_count t) t.keys t.values row₀ → aim rs (mark_of o) ≡ row_goal (symbol_count t) k row t.reals → r ≡ join before o
    → Makes art art (mark_of before) (mark_of r) (insert_row_in_objective (basic_of t i).row k) t (sparse t.words t.keys t.bytes rs t.values)
row-in-objective art t i k before o row₀ row {rs} s low high l e q j =
    let so = s.sound in
    let f = so.named.few-symbols in
    let loads : tab (λ p. get_or row p nan) 1 (symbol_count t) ≡ row_of t.keys t.values (cell_count t) (symbol_count t) i = rw e (loaded-reads (cell_count t) i (symbol_count t) t.keys t.values row₀ so.held.up (omega (arith, f)) (omega (arith, f, l))) in
    rw (joined-mark before o j refl refl)
    (subst (λ (z : Aim). Makes art art (mark_of before) (worse (mark_of before) z.mark) (insert_row_in_objective (basic_of t i).row k) t (sparse t.words t.keys t.bytes z.reals t.values)) (sym q)
    (row_makes art t so i low high k row loads (mark_of before) s))
