-- A work with another cutoff: while the mark stays whole, a step of it is the same step, with that cutoff. Here of substitution, pivots and the two passes.
-- Assumes nothing.
use Rattle.std.specs.Prelude.{◌≡◌, List, [], ◌∷◌, true, false, ◌&&◌, cond, ltb, Float}
use Rattle.std.proofs.Math.Path.{refl, subst}
use Rattle.std.proofs.Common.{sym, ap, ◌∙◌}
use Rattle.std.proofs.Math.Option.{Option, none, some}
use Rattle.std.proofs.Math.Bool.{Bool}
use Prim.Native.Nat.{ℕ, zero, suc}
use Rattle.std.specs.Float.Ieee.{ne}
use Rattle.simplex.specs.Choose.{All}
use Rattle.laws.specs.exact.Unbroken.{Unbroken}
use Rattle.steps.specs.Number.{zero64, objective_bound, cutoff_fits, Mark, all_whole, not_whole, not_finite, worse}
use Rattle.steps.specs.Symbol.{Symbol, is_symbol, is_external}
use Rattle.steps.specs.Row.{Row, Cell, cell_values, cell_marks, Written, solve_for_symbols}
use Rattle.steps.specs.State.{Basic}
use Rattle.steps.specs.Work.{Work, Outcome, refused, going, ◌>>=◌, refuse, check_finite, with_tableau, with_changes, with_artificial, marking, count_pivot, with_rows, with_objective, find_row, drop_row, keep_row}
use Rattle.steps.specs.Changes.{all_changed, note}
use Rattle.steps.specs.Substitute.{substitute_in_row, substitute_in_cells, Substituted, substitute_in_rows, rows_of, marks_of, noted_of, substitute, enter_basis, pivot}
use Rattle.steps.specs.Optimise.{Goal, the_objective, the_artificial, goal_cells, get_entering_symbol, get_leaving_row, Choice, ended, stuck, pivot_on, choose_pivot, counted_pivot, optimise, get_dual_entering_symbol, choose_dual_pivot, dual_optimise}
use Rattle.steps.proofs.After.{enter-after}
use Rattle.simplex.specs.bridge.Nums.{worse-r}
use Rattle.simplex.specs.bridge.Runs.{mark_of}
use Rattle.simplex.proofs.bridge.Runs.{optimise-mark, dual-mark}
use Rattle.run.specs.AddMarks.{finite-mark, bound-mark}
use Rattle.run.specs.RecutRows.{RowU, values-u, solves-u, sub_row-u, sub_cells-u, sub_rows-u, solves-same, sub_row-same, sub_cells-same, sub_rows-same}

-- the work with another cutoff
abbrev pub recut : Float → Work → Work
recut z w = record {
  tableau = record { cutoff = z; symbols = w.tableau.symbols; next_id = w.tableau.next_id; rows = w.tableau.rows; objective = w.tableau.objective };
  changes = w.changes;
  artificial = w.artificial;
  mark = w.mark;
  pivots = w.pivots;
}

abbrev pub recut_of : Float → Outcome Work → Outcome Work
recut_of z (refused n p m) = refused n p m
recut_of z (going w) = going (recut z w)

-- ---- no fraction stands in the work, and its cutoff is one that reset takes

abbrev pub ArtU : Option Row → Type 0
ArtU none = Unit
ArtU (some r) = RowU r

abbrev pub RowsU : List Basic → Type 0
RowsU bs = All (λ (b : Basic). RowU b.row) bs

pub record Plain (w : Work) : Type 0 where
  pub rows : RowsU w.tableau.rows
  pub objective : All Unbroken w.tableau.objective
  pub artificial : ArtU w.artificial
  pub fits : cutoff_fits w.tableau.cutoff ≡ true

abbrev pub PlainOut : Outcome Work → Type 0
PlainOut (refused n p m) = Unit
PlainOut (going w) = Plain w

-- the outcome o, and the same with another cutoff
abbrev pub Same : Float → Outcome Work → Outcome Work → Type 0
Same z o q = (q ≡ recut_of z o) × PlainOut o

-- ---- rows by their symbol

pub keep-u : (r : Basic) (bs : List Basic) → RowU r.row → RowsU bs → RowsU (keep_row r bs)
unfolding keep_row
keep-u r [] h a = (h, tt)
keep-u r (b ∷ bs) h a = go (ltb r.symbol.id b.symbol.id) (keep-u r bs h a.1)
  where
    go : (t : Bool) → RowsU (keep_row r bs) → RowsU (elim t as (λ _. List Basic) [ true ↦ r ∷ b ∷ bs | false ↦ b ∷ keep_row r bs ])
    go true ih = (h, a)
    go false ih = (a.0, ih)

pub drop-u : (s : ℕ) (bs : List Basic) → RowsU bs → RowsU (drop_row s bs)
unfolding drop_row
drop-u s [] a = tt
drop-u s (b ∷ bs) a = go (is_symbol s b.symbol) (drop-u s bs a.1)
  where
    go : (t : Bool) → RowsU (drop_row s bs) → RowsU (elim t as (λ _. List Basic) [ true ↦ bs | false ↦ b ∷ drop_row s bs ])
    go true ih = a.1
    go false ih = (a.0, ih)

pub find-u : (s : ℕ) (bs : List Basic) → RowsU bs → ArtU (find_row s bs)
unfolding find_row
find-u s [] a = tt
find-u s (b ∷ bs) a = go (is_symbol s b.symbol) (find-u s bs a.1)
  where
    go : (t : Bool) → ArtU (find_row s bs) → ArtU (elim t as (λ _. Option Row) [ true ↦ some b.row | false ↦ find_row s bs ])
    go true ih = a.0
    go false ih = ih

-- ---- substitution

-- what substitution leaves, of what it wrote
abbrev built : List Substituted → List Cell → Option Written → Work → Work
built rows objective artificial w =
    marking (worse (marks_of rows) (worse (cell_marks objective_bound objective) (elim artificial as (λ _. Mark) [ none ↦ all_whole | some a ↦ a.mark ])))
    (with_artificial (elim artificial as (λ _. Option Row) [ none ↦ none | some a ↦ some a.row ])
    (with_changes (all_changed (noted_of rows) w.changes)
    (with_objective (cell_values objective)
    (with_rows (rows_of rows) w))))

abbrev art_of : Float → ℕ → List Symbol → Row → Option Row → Option Written
art_of c s xs r t = elim t as (λ _. Option Written) [ none ↦ none | some q ↦ some (substitute_in_row c s xs r q) ]

-- the rest of entering the basis
abbrev placed : Symbol → Row → Work → Work
placed s r v = let noted : Work = cond (is_external s && ne r.constant zero64) (note s.id v) v in with_rows (keep_row (record { symbol = s; row = r }) noted.tableau.rows) noted

substitute-is : (s : ℕ) (r : Row) (w : Work)
    → substitute s r w ≡ built (substitute_in_rows w.tableau.cutoff s w.tableau.symbols r w.tableau.rows) (substitute_in_cells w.tableau.cutoff s w.tableau.symbols r.cells w.tableau.objective) (art_of w.tableau.cutoff s w.tableau.symbols r w.artificial) w
unfolding substitute
substitute-is s r w = refl

enter-is : (s : Symbol) (r : Row) (w : Work) → enter_basis s r w ≡ placed s r (substitute s.id r w)
unfolding enter_basis
enter-is s r w = refl

plain-substitute : (s : ℕ) (r : Row) (w : Work) → Plain w → RowU r → Plain (substitute s r w)
unfolding substitute marking with_artificial with_changes with_objective with_rows with_tableau
plain-substitute s r w p h = record {
  rows = sub_rows-u w.tableau.cutoff s w.tableau.symbols r w.tableau.rows h p.rows;
  objective = values-u _ (sub_cells-u w.tableau.cutoff s w.tableau.symbols r.cells w.tableau.objective h.1 p.objective);
  artificial = go w.artificial p.artificial;
  fits = p.fits;
}
  where
    go : (t : Option Row) → ArtU t → ArtU (elim (art_of w.tableau.cutoff s w.tableau.symbols r t) as (λ _. Option Row) [ none ↦ none | some a ↦ some a.row ])
    go none a = tt
    go (some q) a = sub_row-u w.tableau.cutoff s w.tableau.symbols r q h a

plain-placed : (s : Symbol) (r : Row) (v : Work) → Plain v → RowU r → Plain (placed s r v)
unfolding with_rows with_tableau note with_changes
plain-placed s r v p h = go (is_external s && ne r.constant zero64)
  where
    go : (b : Bool) → Plain (with_rows (keep_row (record { symbol = s; row = r }) (cond b (note s.id v) v).tableau.rows) (cond b (note s.id v) v))
    go true = record { rows = keep-u _ v.tableau.rows h p.rows; objective = p.objective; artificial = p.artificial; fits = p.fits }
    go false = record { rows = keep-u _ v.tableau.rows h p.rows; objective = p.objective; artificial = p.artificial; fits = p.fits }

pub plain-enter : (s : Symbol) (r : Row) (w : Work) → Plain w → RowU r → Plain (enter_basis s r w)
plain-enter s r w p h = subst Plain (sym (enter-is s r w)) (plain-placed s r (substitute s.id r w) (plain-substitute s.id r w p h) h)

module _ (z : Float) (fz : cutoff_fits z ≡ true) where
  recut-built : (rows : List Substituted) (objective : List Cell) (artificial : Option Written) (w : Work) → built rows objective artificial (recut z w) ≡ recut z (built rows objective artificial w)
  unfolding marking with_artificial with_changes with_objective with_rows with_tableau
  recut-built rows objective artificial w = refl

  substitute-same : (s : ℕ) (r : Row) (w : Work) → Plain w → RowU r → substitute s r (recut z w) ≡ recut z (substitute s r w)
  substitute-same s r w p h =
      substitute-is s r (recut z w)
      ∙ ap (λ (a : List Substituted). built a (cells z) (art_of z s xs r w.artificial) (recut z w)) (sub_rows-same y z fy fz s xs r w.tableau.rows h p.rows)
      ∙ ap (λ (b : List Cell). built (rows y) b (art_of z s xs r w.artificial) (recut z w)) (sub_cells-same y z fy fz s xs r.cells w.tableau.objective h.1 p.objective)
      ∙ ap (λ (c : Option Written). built (rows y) (cells y) c (recut z w)) (art w.artificial p.artificial)
      ∙ recut-built (rows y) (cells y) (art_of y s xs r w.artificial) w
      ∙ ap (recut z) (sym (substitute-is s r w))
    where
      y : Float
      y = w.tableau.cutoff

      fy : cutoff_fits y ≡ true
      fy = p.fits

      xs : List Symbol
      xs = w.tableau.symbols

      rows : Float → List Substituted
      rows c = substitute_in_rows c s xs r w.tableau.rows

      cells : Float → List Cell
      cells c = substitute_in_cells c s xs r.cells w.tableau.objective

      art : (t : Option Row) → ArtU t → art_of z s xs r t ≡ art_of y s xs r t
      art none a = refl
      art (some q) a = ap some (sub_row-same y z fy fz s xs r q h a)

  recut-placed : (s : Symbol) (r : Row) (v : Work) → placed s r (recut z v) ≡ recut z (placed s r v)
  unfolding with_rows with_tableau note with_changes
  recut-placed s r v = go (is_external s && ne r.constant zero64)
    where
      on : Bool → Work → Work
      on b v = with_rows (keep_row (record { symbol = s; row = r }) (cond b (note s.id v) v).tableau.rows) (cond b (note s.id v) v)

      go : (b : Bool) → on b (recut z v) ≡ recut z (on b v)
      go true = refl
      go false = refl

  pub enter-same : (s : Symbol) (r : Row) (w : Work) → Plain w → RowU r → enter_basis s r (recut z w) ≡ recut z (enter_basis s r w)
  enter-same s r w p h =
      enter-is s r (recut z w) ∙ ap (placed s r) (substitute-same s.id r w p h) ∙ recut-placed s r (substitute s.id r w) ∙ ap (recut z) (sym (enter-is s r w))

  -- ---- a pivot

  pub pivot-same : (l : ℕ) (e : Symbol) (w : Work) → Plain w → (pivot l e w).mark ≡ all_whole → (pivot l e (recut z w) ≡ recut z (pivot l e w)) × Plain (pivot l e w)
  unfolding pivot marking with_rows with_tableau
  pivot-same l e w p = go (find_row l w.tableau.rows) (find-u l w.tableau.rows p.rows)
    where
      by : Written → Work → Work
      by s w = enter_basis e s.row (marking s.mark (with_rows (drop_row l w.tableau.rows) w))

      at : Float → Option Row → Work → Work
      at c o w = elim o as (λ _. Work) [ none ↦ w | some row ↦ by (solve_for_symbols c l e.id w.tableau.symbols row) w ]

      go : (o : Option Row) → ArtU o → (at w.tableau.cutoff o w).mark ≡ all_whole → (at z o (recut z w) ≡ recut z (at w.tableau.cutoff o w)) × Plain (at w.tableau.cutoff o w)
      go none a m = (refl, p)
      go (some row) a m =
          let s : Written = solve_for_symbols w.tableau.cutoff l e.id w.tableau.symbols row in
          let v : Work = marking s.mark (with_rows (drop_row l w.tableau.rows) w) in
          let h : RowU s.row = solves-u w.tableau.cutoff l e.id w.tableau.symbols row a (worse-r w.mark s.mark ((enter-after e s.row v).mark m)) in
          let q : Plain v = record { rows = drop-u l w.tableau.rows p.rows; objective = p.objective; artificial = p.artificial; fits = p.fits } in
          (ap (λ (t : Written). by t (recut z w)) (solves-same w.tableau.cutoff z p.fits fz l e.id w.tableau.symbols row a) ∙ enter-same e s.row v q h, plain-enter e s.row v q h)

  -- ---- one step after another

  pub check-same : (x : Work) → Plain x → Same z (check_finite x) (check_finite (recut z x))
  unfolding check_finite refuse
  check-same x p = go x.mark
    where
      at : Mark → Work → Outcome Work
      at m x = elim m as (λ _. Outcome Work) [ all_whole ↦ going x | not_whole ↦ going x | not_finite ↦ refused 13 x.pivots x.mark ]

      go : (m : Mark) → Same z (at m x) (at m (recut z x))
      go all_whole = (refl, p)
      go not_whole = (refl, p)
      go not_finite = (refl, tt)

  pub refuse-same : (n : ℕ) (x : Work) → Same z (refuse n x) (refuse n (recut z x))
  unfolding refuse
  refuse-same n x = (refl, tt)

  pub bind-same : (o q : Outcome Work) (f : Work → Outcome Work) → ((v : Work) → mark_of (f v) ≡ all_whole → v.mark ≡ all_whole) → (mark_of o ≡ all_whole → Same z o q)
      → ((v : Work) → Plain v → mark_of (f v) ≡ all_whole → Same z (f v) (f (recut z v))) → mark_of (o >>= f) ≡ all_whole → Same z (o >>= f) (q >>= f)
  bind-same o q f mono first then m = go o (first (bound-mark o f mono m)) m
    where
      go : (o : Outcome Work) → Same z o q → mark_of (o >>= f) ≡ all_whole → Same z (o >>= f) (q >>= f)
      go (refused n p k) s m = unfold ◌>>=◌ in (rw s.0 refl, tt)
      go (going v) s m = unfold ◌>>=◌ in rw s.0 (then v s.1 m)

  -- ---- the passes

  count_pivot-same : (v : Work) → Plain v → Same z (going (count_pivot v)) (going (count_pivot (recut z v)))
  unfolding count_pivot
  count_pivot-same v p = (refl, record { rows = p.rows; objective = p.objective; artificial = p.artificial; fits = p.fits })

  counted-mark : (v : Work) → mark_of (going (count_pivot v)) ≡ all_whole → v.mark ≡ all_whole
  unfolding mark_of count_pivot
  counted-mark v m = m

  -- a pivot that is tested, then what follows
  pub pivoted-same : (l : ℕ) (e : Symbol) (w : Work) → Plain w → mark_of (check_finite (pivot l e w)) ≡ all_whole → Same z (check_finite (pivot l e w)) (check_finite (pivot l e (recut z w)))
  pivoted-same l e w p m =
      let s = pivot-same l e w p (finite-mark (pivot l e w) m) in
      subst (λ (x : Work). Same z (check_finite (pivot l e w)) (check_finite x)) (sym s.0) (check-same (pivot l e w) s.1)

  counted_same : (l e : Symbol) (w : Work) → Plain w → mark_of (counted_pivot l e w) ≡ all_whole → Same z (counted_pivot l e w) (counted_pivot l e (recut z w))
  unfolding counted_pivot
  counted_same l e w p m = bind-same _ _ (λ v. going (count_pivot v)) counted-mark (pivoted-same l.id e w p) (λ v q _. count_pivot-same v q) m

  -- a turn of a pass, and what follows it
  turn : Choice → ℕ → (Symbol → Symbol → Work → Outcome Work) → Work → Outcome Work
  turn c k f w = elim c as (λ _. Outcome Work) [ ended ↦ going w | stuck ↦ refuse k w | pivot_on l e ↦ f l e w ]

  turn-same : (c : Choice) (k : ℕ) (f : Symbol → Symbol → Work → Outcome Work) (w : Work) → Plain w → ((l e : Symbol) → mark_of (f l e w) ≡ all_whole → Same z (f l e w) (f l e (recut z w)))
      → mark_of (turn c k f w) ≡ all_whole → Same z (turn c k f w) (turn c k f (recut z w))
  unfolding turn
  turn-same ended k f w p h m = (refl, p)
  turn-same stuck k f w p h m = refuse-same k w
  turn-same (pivot_on l e) k f w p h m = h l e m

  choose-same : (g : Goal) (w : Work) → choose_pivot g (recut z w) ≡ choose_pivot g w
  unfolding choose_pivot get_entering_symbol goal_cells get_leaving_row
  choose-same the_objective w = refl
  choose-same the_artificial w = refl

  pub optimise-same : (left : ℕ) (g : Goal) (w : Work) → Plain w → mark_of (optimise left g w) ≡ all_whole → Same z (optimise left g w) (optimise left g (recut z w))
  unfolding optimise turn
  optimise-same zero g w p m =
      subst (λ (c : Choice). Same z (turn (choose_pivot g w) 15 (λ l e v. refuse 14 v) w) (turn c 15 (λ l e v. refuse 14 v) (recut z w))) (sym (choose-same g w))
      (turn-same (choose_pivot g w) 15 (λ l e v. refuse 14 v) w p (λ l e _. refuse-same 14 w) m)
  optimise-same (suc left) g w p m =
      subst (λ (c : Choice). Same z (turn (choose_pivot g w) 15 (λ l e v. counted_pivot l e v >>= λ x. optimise left g x) w) (turn c 15 (λ l e v. counted_pivot l e v >>= λ x. optimise left g x) (recut z w))) (sym (choose-same g w))
      (turn-same (choose_pivot g w) 15 (λ l e v. counted_pivot l e v >>= λ x. optimise left g x) w p
      (λ l e. bind-same _ _ (λ x. optimise left g x) (optimise-mark left g) (counted_same l e w p) (optimise-same left g)) m)

  choose-dual-same : (w : Work) → choose_dual_pivot (recut z w) ≡ choose_dual_pivot w
  unfolding choose_dual_pivot get_dual_entering_symbol
  choose-dual-same w = refl

  pub dual-same : (left : ℕ) (w : Work) → Plain w → mark_of (dual_optimise left w) ≡ all_whole → Same z (dual_optimise left w) (dual_optimise left (recut z w))
  unfolding dual_optimise turn
  dual-same zero w p m =
      subst (λ (c : Choice). Same z (turn (choose_dual_pivot w) 16 (λ l e v. refuse 14 v) w) (turn c 16 (λ l e v. refuse 14 v) (recut z w))) (sym (choose-dual-same w))
      (turn-same (choose_dual_pivot w) 16 (λ l e v. refuse 14 v) w p (λ l e _. refuse-same 14 w) m)
  dual-same (suc left) w p m =
      subst (λ (c : Choice). Same z (turn (choose_dual_pivot w) 16 (λ l e v. counted_pivot l e v >>= λ x. dual_optimise left x) w) (turn c 16 (λ l e v. counted_pivot l e v >>= λ x. dual_optimise left x) (recut z w))) (sym (choose-dual-same w))
      (turn-same (choose_dual_pivot w) 16 (λ l e v. counted_pivot l e v >>= λ x. dual_optimise left x) w p
      (λ l e. bind-same _ _ (λ x. dual_optimise left x) (dual-mark left) (counted_same l e w p) (dual-same left)) m)
