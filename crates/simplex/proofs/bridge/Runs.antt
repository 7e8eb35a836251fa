-- An optimise pass of the steps whose mark stays is a pass of the theory: state by state, pivot by pivot. Assumes nothing.
use Rattle.std.specs.Prelude.{◌≡◌, refl, List, [], Bool, true, false, ◌&&◌, cond, negsuc, ◌*ℤ◌, Float}
use Rattle.std.proofs.Common.{sym, ◌∙◌, subst, arith}
use Rattle.std.proofs.Math.Path.{ap, ap₂}
use Rattle.std.proofs.Math.Option.{Option, none, some}
use Prim.Native.Nat.{ℕ, zero, suc, ◌+◌, ◌^◌, ◌<◌}
use Rattle.std.specs.Float.Ieee.{ne}
use Rattle.laws.specs.Z.{◌≼◌, ◌≺◌}
use Rattle.simplex.specs.Ord.{0ℤ, 1ℤ}
use Rattle.simplex.specs.Lin.{Vec}
use Rattle.simplex.specs.Basis.{swap}
use Rattle.simplex.specs.Tab.{pivoted}
use Rattle.simplex.specs.Opt.{Kind as KindZ, slack}
use Rattle.simplex.specs.Pass.{State, step, Good, Choice, step-good}
use Rattle.simplex.specs.Bound.{Mem}
use Rattle.simplex.specs.Search.{Asc}
use Rattle.simplex.specs.Look.{Look, done, no_row, go_on, look, next, after, lv, ev, Pivots}
use Rattle.steps.specs.Number.{zero64, Mark, all_whole, not_whole, not_finite, worse}
use Rattle.steps.specs.Symbol.{Symbol, is_external}
use Rattle.steps.specs.Row.{Row, Written, solve_for_symbols}
use Rattle.steps.specs.Work.{Work, Outcome, refused, going, ◌>>=◌, refuse, check_finite, count_pivot, marking, with_rows, with_tableau, with_changes, with_artificial, with_objective, find_row, drop_row, keep_row}
use Rattle.steps.specs.Changes.{note}
use Rattle.steps.specs.Substitute.{substitute, enter_basis, pivot}
use Rattle.steps.specs.Optimise.{Goal, the_objective, the_artificial, goal_cells, choose_pivot, ended, stuck, pivot_on, Choice as Chosen, counted_pivot, optimise, choose_dual_pivot, dual_optimise}
use Rattle.simplex.specs.bridge.Nums.{worse-l, finite≢}
use Rattle.simplex.specs.bridge.Rows.{Reads}
use Rattle.simplex.specs.bridge.Finds.{after-sub}
use Rattle.simplex.specs.bridge.Table.{ReadsWork, ArtAt, in-nonzero}
use Rattle.simplex.proofs.bridge.Table.{enter-parts, pivot-z}
use Rattle.simplex.specs.bridge.Chosen.{Leaves}
use Rattle.simplex.specs.bridge.Looks.{Enters, Choose, at-end, row-less, pivots}
use Rattle.simplex.proofs.bridge.Looks.{choose-is, choice-is, minus_one, look-pivot, look-end, look-stuck}
use Rattle.simplex.specs.bridge.Runs.{mark_of, Standing, ReadsGoal, carried, obj_of, art_of, no-leaving, rests, used-up}
use Rattle.simplex.specs.bridge.Runs as specs

-- a pivot: nothing where the row is missing, else the row is solved and enters
pub pivot-cases : (l : ℕ) (e : Symbol) (w : Work) (Q : Work → Type 0) → Q w
    → ((row : Row) → Q (enter_basis e (solve_for_symbols w.tableau.cutoff l e.id w.tableau.symbols row).row (marking (solve_for_symbols w.tableau.cutoff l e.id w.tableau.symbols row).mark (with_rows (drop_row l w.tableau.rows) w))))
    → Q (pivot l e w)
unfolding pivot
pivot-cases l e w Q f g = go (find_row l w.tableau.rows)
  where
    go : (t : Option Row) → Q (elim t [ none ↦ w | some row ↦ enter_basis e (solve_for_symbols w.tableau.cutoff l e.id w.tableau.symbols row).row (marking (solve_for_symbols w.tableau.cutoff l e.id w.tableau.symbols row).mark (with_rows (drop_row l w.tableau.rows) w)) ])
    go none = f
    go (some row) = g row

pub pivot-mark : (l : ℕ) (e : Symbol) (w : Work) → (pivot l e w).mark ≡ all_whole → w.mark ≡ all_whole
unfolding marking with_rows with_tableau
pivot-mark l e w = pivot-cases l e w (λ (x : Work). x.mark ≡ all_whole → w.mark ≡ all_whole) (λ m. m) entered
  where
    entered : (row : Row) → (enter_basis e (solve_for_symbols w.tableau.cutoff l e.id w.tableau.symbols row).row (marking (solve_for_symbols w.tableau.cutoff l e.id w.tableau.symbols row).mark (with_rows (drop_row l w.tableau.rows) w))).mark ≡ all_whole → w.mark ≡ all_whole
    entered row m =
        let s : Written = solve_for_symbols w.tableau.cutoff l e.id w.tableau.symbols row in
        let p = enter-parts e s.row (marking s.mark (with_rows (drop_row l w.tableau.rows) w)) in
        worse-l w.mark s.mark (worse-l (worse w.mark s.mark) _ (sym p.mark ∙ m))

pivot-standing : (l : ℕ) (e : Symbol) (w : Work) → Standing w.artificial → Standing (pivot l e w).artificial
unfolding marking with_rows with_tableau
pivot-standing l e w h = pivot-cases l e w (λ (x : Work). Standing x.artificial) h entered
  where
    still : (cut : Float) (s : ℕ) (xs : List Symbol) (r : Row) (t : Option Row) → Standing t → Standing (after-sub cut s xs r t)
    still cut s xs r none h = absurd h
    still cut s xs r (some t) h = unfold after-sub in tt

    entered : (row : Row) → Standing (enter_basis e (solve_for_symbols w.tableau.cutoff l e.id w.tableau.symbols row).row (marking (solve_for_symbols w.tableau.cutoff l e.id w.tableau.symbols row).mark (with_rows (drop_row l w.tableau.rows) w))).artificial
    entered row =
        let s : Written = solve_for_symbols w.tableau.cutoff l e.id w.tableau.symbols row in
        let p = enter-parts e s.row (marking s.mark (with_rows (drop_row l w.tableau.rows) w)) in
        subst Standing (sym p.artificial) (still w.tableau.cutoff e.id w.tableau.symbols s.row w.artificial h)

-- a pivot counts no pivot, and counting it does no more
pub pivot-pivots : (l : ℕ) (e : Symbol) (w : Work) → (pivot l e w).pivots ≡ w.pivots
unfolding enter_basis substitute note with_tableau with_changes with_artificial marking with_rows with_objective
pivot-pivots l e w = pivot-cases l e w (λ (x : Work). x.pivots ≡ w.pivots) refl (λ row. entered (is_external e && ne (solve_for_symbols w.tableau.cutoff l e.id w.tableau.symbols row).row.constant zero64) (solve_for_symbols w.tableau.cutoff l e.id w.tableau.symbols row))
  where
    entered : (b : Bool) (s : Written) → (with_rows (keep_row (record { symbol = e; row = s.row }) (cond b (note e.id (substitute e.id s.row (marking s.mark (with_rows (drop_row l w.tableau.rows) w)))) (substitute e.id s.row (marking s.mark (with_rows (drop_row l w.tableau.rows) w)))).tableau.rows) (cond b (note e.id (substitute e.id s.row (marking s.mark (with_rows (drop_row l w.tableau.rows) w)))) (substitute e.id s.row (marking s.mark (with_rows (drop_row l w.tableau.rows) w))))).pivots ≡ w.pivots
    entered true s = refl
    entered false s = refl

pub counted-mark : (w : Work) → (count_pivot w).mark ≡ all_whole → w.mark ≡ all_whole
unfolding count_pivot
counted-mark w m = m

pub counted-one : (l : ℕ) (e : Symbol) (w : Work) → (count_pivot (pivot l e w)).pivots ≡ suc w.pivots
unfolding count_pivot
counted-one l e w = ap suc (pivot-pivots l e w)

-- ---- one turn of a pass, which makes `on` of the next work
pub turned : (on : Work → Outcome Work) (l e : Symbol) (w : Work) (Q : Outcome Work → Type 0) → ((pivot l.id e w).mark ≡ not_finite → Q (refused 13 (pivot l.id e w).pivots not_finite))
    → Q (on (count_pivot (pivot l.id e w))) → Q (counted_pivot l e w >>= on)
unfolding counted_pivot check_finite refuse ◌>>=◌
turned on l e w Q f h = go (pivot l.id e w).mark refl
  where
    go : (m : Mark) → (pivot l.id e w).mark ≡ m
        → Q (((elim m [ all_whole ↦ going (pivot l.id e w) | not_whole ↦ going (pivot l.id e w) | not_finite ↦ refused 13 (pivot l.id e w).pivots (pivot l.id e w).mark ]) >>= λ v. going (count_pivot v)) >>= on)
    go all_whole e' = h
    go not_whole e' = h
    go not_finite e' = subst (λ (m : Mark). Q (refused 13 (pivot l.id e w).pivots m)) (sym e') (f e')

-- ---- what holds of either pass, whatever it chooses: of its end, of each refusal, and before a pivot if after it
module _ (P : Work → Outcome Work → Type 0) (rest : (w : Work) → P w (going w)) (refuses : (n : ℕ) (w : Work) → P w (refuse n w))
    (lost : (l e : Symbol) (w : Work) → (pivot l.id e w).mark ≡ not_finite → P w (refused 13 (pivot l.id e w).pivots not_finite))
    (before : (l e : Symbol) (w : Work) (x : Outcome Work) → P (count_pivot (pivot l.id e w)) x → P w x) where
  last : (n : ℕ) (w : Work) (c : Chosen) → P w (elim c [ ended ↦ going w | stuck ↦ refuse n w | pivot_on l e ↦ refuse 14 w ])
  last n w ended = rest w
  last n w stuck = refuses n w
  last n w (pivot_on l e) = refuses 14 w

  turn : (n : ℕ) (w : Work) (on : Work → Outcome Work) → ((v : Work) → P v (on v)) → (c : Chosen) → P w (elim c [ ended ↦ going w | stuck ↦ refuse n w | pivot_on l e ↦ counted_pivot l e w >>= on ])
  turn n w on h ended = rest w
  turn n w on h stuck = refuses n w
  turn n w on h (pivot_on l e) = turned on l e w (P w) (lost l e w) (before l e w (on (count_pivot (pivot l.id e w))) (h (count_pivot (pivot l.id e w))))

  pub optimise-all : (left : ℕ) (g : Goal) (w : Work) → P w (optimise left g w)
  unfolding optimise
  optimise-all zero g w = last 15 w (choose_pivot g w)
  optimise-all (suc left) g w = turn 15 w (λ v. optimise left g v) (optimise-all left g) (choose_pivot g w)

  pub dual-all : (left : ℕ) (w : Work) → P w (dual_optimise left w)
  unfolding dual_optimise
  dual-all zero w = last 16 w (choose_dual_pivot w)
  dual-all (suc left) w = turn 16 w (λ v. dual_optimise left v) (dual-all left) (choose_dual_pivot w)

-- a mark that is whole at the end of a pass was so at its start
abbrev Marked : Work → Outcome Work → Type 0
Marked w x = mark_of x ≡ all_whole → w.mark ≡ all_whole

pub optimise-mark : (left : ℕ) (g : Goal) (w : Work) → Marked w (optimise left g w)
unfolding mark_of refuse
optimise-mark = optimise-all Marked (λ w m. m) (λ n w m. m) (λ l e w f m. absurd (finite≢ m)) (λ l e w x h m. pivot-mark l.id e w (counted-mark (pivot l.id e w) (h m)))

pub dual-mark : (left : ℕ) (w : Work) → Marked w (dual_optimise left w)
unfolding mark_of refuse
dual-mark = dual-all Marked (λ w m. m) (λ n w m. m) (λ l e w f m. absurd (finite≢ m)) (λ l e w x h m. pivot-mark l.id e w (counted-mark (pivot l.id e w) (h m)))

goal-cells : (g : Goal) (kind : ℕ → KindZ) (w : Work) (S : State) (z : Vec) → ReadsGoal g kind w S z → (b : ℕ) × Reads b w.tableau.symbols (goal_cells g w) S.o
unfolding goal_cells
goal-cells the_objective kind w S z h = (2 ^ 40, h.objective)
goal-cells the_artificial kind w S z h = (1024, go w.artificial h.0.artificial h.1)
  where
    go : (t : Option Row) → ArtAt w.tableau.symbols t S.o → Standing t → Reads 1024 w.tableau.symbols (elim t [ none ↦ [] | some r ↦ r.cells ]) S.o
    go none a s = absurd s
    go (some r) a s = a.cells

pub reads_of : (kind : ℕ → KindZ) (g : Goal) (w : Work) (S : State) (z : Vec) → ReadsGoal g kind w S z → ReadsWork kind w S.B S.R (obj_of g S.o z) (art_of g S.o z)
reads_of kind the_objective w S z h = h
reads_of kind the_artificial w S z h = h.0

pub reads_on : (kind : ℕ → KindZ) (g : Goal) (w : Work) (S : State) (z : Vec) (l : ℕ) (e : Symbol) → ReadsGoal g kind w S z
    → ReadsWork kind (pivot l e w) (swap l e.id S.B) (Rattle.simplex.specs.Tab.pivot l e.id S.R) (pivoted l e.id S.R (obj_of g S.o z)) (pivoted l e.id S.R (art_of g S.o z))
    → ReadsGoal g kind (pivot l e w) (step l e.id S) (pivoted l e.id S.R z)
reads_on kind the_objective w S z l e h r = r
reads_on kind the_artificial w S z l e h r = (r, pivot-standing l e w h.1)

pub count-reads : (kind : ℕ → KindZ) (g : Goal) (x : Work) (S : State) (z : Vec) → ReadsGoal g kind x S z → ReadsGoal g kind (count_pivot x) S z
unfolding count_pivot
count-reads kind the_objective x S z h = h
count-reads kind the_artificial x S z h = h

-- ---- a pass from the second state on
shift : (kind : ℕ → KindZ) (ids : List ℕ) (S : State) (l e : ℕ) → look kind ids S ≡ go_on l e → (i : ℕ) → after kind ids S (suc i) ≡ after kind ids (step l e S) i
unfolding after next
shift kind ids S l e k zero = ap (next kind ids S) k
shift kind ids S l e k (suc i) = ap (λ (t : State). next kind ids t (look kind ids t)) (shift kind ids S l e k i)

at_first : (kind : ℕ → KindZ) (ids : List ℕ) (S : State) (l e : ℕ) → look kind ids S ≡ go_on l e → S.R l e ≡ negsuc 0 → Pivots (after kind ids S zero) (look kind ids (after kind ids S zero))
unfolding after
at_first kind ids S l e k u = subst (Pivots S) (sym k) u

module _ (n : ℕ) (kind : ℕ → KindZ) (ids : List ℕ) (asc : Asc ids) (cover : (j : ℕ) → kind j ≡ slack → Mem j ids) (inside : (j : ℕ) → Mem j ids → j < n) where
  abbrev Ran : (g : Goal) (left : ℕ) (w : Work) (S : State) (z : Vec) → Outcome Work → Type 0
  Ran = specs.Ran n kind ids asc cover inside

  shift-carried : (S : State) (z : Vec) (l e : ℕ) → look kind ids S ≡ go_on l e → (i : ℕ) → carried kind ids S z (suc i) ≡ carried kind ids (step l e S) (pivoted l e S.R z) i
  unfolding carried after lv ev
  shift-carried S z l e k zero = ap (λ (t : Look). pivoted (lv t) (ev t) S.R z) k
  shift-carried S z l e k (suc i) =
      ap₂ (λ (t : State) (y : Vec). pivoted (lv (look kind ids t)) (ev (look kind ids t)) t.R y) (shift kind ids S l e k i) (shift-carried S z l e k i)

  -- ---- one pivot
  module _ (w : Work) (S : State) (G : Good n kind S) (o a : Vec) (H : ReadsWork kind w S.B S.R o a) (l e : Symbol) (E : Enters n kind w S.B S.R o a H S.o G e)
      (L : Leaves kind w.tableau.cutoff w.tableau.symbols w.tableau.rows w.tableau.objective w.artificial S.B S.R o a H e.id (in-nonzero e.id w.tableau.symbols H.up E.live.0) l)
      (m : (pivot l.id e w).mark ≡ all_whole) where
    pub turn_is : (w.mark ≡ all_whole) × (S.R l.id e.id *ℤ S.R l.id e.id ≡ 1ℤ)
        × ReadsWork kind (pivot l.id e w) (swap l.id e.id S.B) (Rattle.simplex.specs.Tab.pivot l.id e.id S.R) (pivoted l.id e.id S.R o) (pivoted l.id e.id S.R a)
    turn_is = pivot-z kind w S.B S.R o a H l.id e L.basic E.free E.live (G.shape.unit e.id E.free) m

    on-minus : S.R l.id e.id ≡ negsuc 0
    on-minus = minus_one (S.R l.id e.id) turn_is.1 L.cell

    pub is-choice : Choice n kind S l.id e.id
    is-choice = choice-is n kind w S.B S.R o a H S.o G (λ j s. inside j (cover j s)) l e E L on-minus

    is-look : look kind ids S ≡ go_on l.id e.id
    is-look = look-pivot n kind ids asc cover S G l.id e.id is-choice

    pub is-good : Good n kind (step l.id e.id S)
    is-good = step-good n kind S G l.id e.id is-choice

  -- the pass from the second state on, and the first pivot before it
  extend : (g : Goal) (left : ℕ) (w v : Work) (S : State) (z : Vec) (l e : ℕ) → look kind ids S ≡ go_on l e → S.R l e ≡ negsuc 0 → v.pivots ≡ suc w.pivots
      → (x : Outcome Work) → Ran g left v (step l e S) (pivoted l e S.R z) x → Ran g (suc left) w S z x
  extend g left w v S z l e k u c x r = go x r
    where
      first : (m : ℕ) → ((i : ℕ) → i < m → Pivots (after kind ids (step l e S) i) (look kind ids (after kind ids (step l e S) i)))
          → (i : ℕ) → i < suc m → Pivots (after kind ids S i) (look kind ids (after kind ids S i))
      first m f zero h = at_first kind ids S l e k u
      first m f (suc i) h = subst (λ (t : State). Pivots t (look kind ids t)) (sym (shift kind ids S l e k i)) (f i (omega arith))

      count : (p m : ℕ) → p ≡ v.pivots + m → p ≡ w.pivots + suc m
      count p m q = omega (arith, c)

      go : (x : Outcome Work) → Ran g left v (step l e S) (pivoted l e S.R z) x → Ran g (suc left) w S z x
      go x (rests m b f d y r q) =
          rests (suc m) (omega arith) (first m f) (ap (look kind ids) (shift kind ids S l e k m) ∙ d) y
          (subst (λ (t : State). ReadsGoal g kind y t (carried kind ids S z (suc m))) (sym (shift kind ids S l e k m)) (subst (λ (t : Vec). ReadsGoal g kind y (after kind ids (step l e S) m) t) (sym (shift-carried S z l e k m)) r))
          (count y.pivots m q)
      go x (used-up f p q t) = used-up (first left f) p (count p left q) t
      go x (no-leaving m b f e' d p q t) = no-leaving (suc m) (omega arith) (first m f) e' (ap (look kind ids) (shift kind ids S l e k m) ∙ d) p (count p m q) t

  -- ---- THE PASS: what optimise answers with its mark whole is a pass of the theory
  Whole-run : (g : Goal) (left : ℕ) (w : Work) (S : State) (z : Vec) → Outcome Work → Type 0
  Whole-run g left w S z x = mark_of x ≡ all_whole → Ran g left w S z x

  pub view : (g : Goal) (w : Work) (S : State) (z : Vec) (G : Good n kind S) (H : ReadsGoal g kind w S z)
      → Choose n kind w S.B S.R (obj_of g S.o z) (art_of g S.o z) (reads_of kind g w S z H) S.o G (choose_pivot g w)
  view g w S z G H =
      let c = goal-cells g kind w S z H in
      choose-is n kind w S.B S.R (obj_of g S.o z) (art_of g S.o z) (reads_of kind g w S z H) S.o G c.0 g c.1

  still : (S : State) → Good n kind S → ((j : ℕ) → kind j ≡ slack → 0ℤ ≼ S.o j) → look kind ids (after kind ids S zero) ≡ done
  unfolding after
  still S G h = look-end n kind ids asc cover S G h

  no_way : (w : Work) (S : State) (G : Good n kind S) (o a : Vec) (H : ReadsWork kind w S.B S.R o a) (e : Symbol) → Enters n kind w S.B S.R o a H S.o G e
      → ((j : ℕ) → S.B j ≡ true → kind j ≡ slack → S.R j e.id ≺ 0ℤ → ⊥) → look kind ids (after kind ids S zero) ≡ no_row e.id
  unfolding after
  no_way w S G o a H e E f = look-stuck n kind ids asc cover S G e.id E.is-slack E.cell E.lowest f

  reads-0 : (g : Goal) (w : Work) (S : State) (z : Vec) → ReadsGoal g kind w S z → ReadsGoal g kind w (after kind ids S zero) (carried kind ids S z zero)
  unfolding after carried
  reads-0 g w S z h = h

  none_yet : (S : State) (i : ℕ) → i < zero → Pivots (after kind ids S i) (look kind ids (after kind ids S i))
  none_yet S i h = absurd (omega arith)

  add-0 : (p : ℕ) → p ≡ p + 0
  add-0 p = omega arith

  pub run : (left : ℕ) (g : Goal) (w : Work) (S : State) (z : Vec) → Good n kind S → ReadsGoal g kind w S z → mark_of (optimise left g w) ≡ all_whole → Ran g left w S z (optimise left g w)
  unfolding optimise refuse mark_of Whole-run
  run zero g w S z G H = go (choose_pivot g w) (view g w S z G H)
    where
      go : (c : Chosen) → Choose n kind w S.B S.R (obj_of g S.o z) (art_of g S.o z) (reads_of kind g w S z H) S.o G c
          → Whole-run g zero w S z (elim c [ ended ↦ going w | stuck ↦ refused 15 w.pivots w.mark | pivot_on l e ↦ refused 14 w.pivots w.mark ])
      go c (at-end h) = λ m. rests zero (omega arith) (none_yet S) (still S G h) w (reads-0 g w S z H) (add-0 w.pivots)
      go c (row-less e E f) = λ m. no-leaving zero (omega arith) (none_yet S) e.id (no_way w S G (obj_of g S.o z) (art_of g S.o z) (reads_of kind g w S z H) e E f) w.pivots (add-0 w.pivots) w.mark
      go c (pivots l e E L) = λ m. used-up (none_yet S) w.pivots (add-0 w.pivots) w.mark
  run (suc left) g w S z G H = go (choose_pivot g w) (view g w S z G H) (run left g)
    where
      go : (c : Chosen) → Choose n kind w S.B S.R (obj_of g S.o z) (art_of g S.o z) (reads_of kind g w S z H) S.o G c
          → ((w : Work) (S : State) (z : Vec) → Good n kind S → ReadsGoal g kind w S z → mark_of (optimise left g w) ≡ all_whole → Ran g left w S z (optimise left g w))
          → Whole-run g (suc left) w S z (elim c [ ended ↦ going w | stuck ↦ refused 15 w.pivots w.mark | pivot_on l e ↦ counted_pivot l e w >>= λ v. optimise left g v ])
      go c (at-end h) ih = λ m. rests zero (omega arith) (none_yet S) (still S G h) w (reads-0 g w S z H) (add-0 w.pivots)
      go c (row-less e E f) ih = λ m. no-leaving zero (omega arith) (none_yet S) e.id (no_way w S G (obj_of g S.o z) (art_of g S.o z) (reads_of kind g w S z H) e E f) w.pivots (add-0 w.pivots) w.mark
      go c (pivots l e E L) ih = turned (λ v. optimise left g v) l e w (Whole-run g (suc left) w S z) (λ f m. absurd (finite≢ m)) on
        where
          on : mark_of (optimise left g (count_pivot (pivot l.id e w))) ≡ all_whole → Ran g (suc left) w S z (optimise left g (count_pivot (pivot l.id e w)))
          on m =
              let o = obj_of g S.o z in
              let a = art_of g S.o z in
              let pm : (pivot l.id e w).mark ≡ all_whole = counted-mark (pivot l.id e w) (optimise-mark left g (count_pivot (pivot l.id e w)) m) in
              let t = turn_is w S G o a (reads_of kind g w S z H) l e E L pm in
              extend g left w (count_pivot (pivot l.id e w)) S z l.id e.id (is-look w S G o a (reads_of kind g w S z H) l e E L pm) (on-minus w S G o a (reads_of kind g w S z H) l e E L pm) (counted-one l.id e w)
              (optimise left g (count_pivot (pivot l.id e w)))
              (ih (count_pivot (pivot l.id e w)) (step l.id e.id S) (pivoted l.id e.id S.R z) (is-good w S G o a (reads_of kind g w S z H) l e E L pm)
              (count-reads kind g (pivot l.id e w) (step l.id e.id S) (pivoted l.id e.id S.R z) (reads_on kind g w S z l.id e H t.2)) m)
