-- A DROP HOLDS NO BASIC SET TWICE. Within a pass none comes twice; and each removal takes a row away, so that the sets of a later pass are smaller. Assumes nothing.
use Prim.Native.Nat.{ℕ, suc, ◌-◌, ◌≤◌, ◌<◌}
use native.Mathlib.Omega.{arith}
use mathlib.Core.Path.{◌≡◌, refl, sym, ap, ◌∙◌, subst}
use mathlib.Core.Logic.{◌≢◌}
use mathlib.Core.List.{List, [], ◌∷◌, ◌++◌}
use mathlib.Core.Option.{Option, none, some}
use mathlib.Core.Bool.{Bool, true, false, true≢false}
use lib.Dec.{eqb, eqb-suc-zero}
use lib.ListN.{length}
use lib.Ieee.{Float}
use Rattle.simplex.specs.Choose.{All}
use Rattle.steps.specs.Number.{cutoff_fits, Mark}
use Rattle.steps.specs.Symbol.{is_symbol}
use Rattle.steps.specs.Row.{Row}
use Rattle.steps.specs.State.{Basic, Constraint, State}
use Rattle.steps.specs.Work.{Work, Outcome, refused, going, ◌>>=◌, find_row, drop_row}
use Rattle.steps.specs.Remove.{purge_tag, remove_steps}
use Rattle.steps.specs.Tests.{first_refusal, drop_tests, group_of}
use Rattle.steps.specs.Calls.{Result, refused_by, conclude, remove_stored}
use Rattle.steps.specs.Readable.{readable}
use Rattle.simplex.specs.bridge.Rows.{Sym?, is, isnt, sym?}
use Rattle.simplex.specs.bridge.Finds.{UpRows, find-hit, find-miss, find_none, find-drop-other}
use Rattle.keeps.specs.Tested.{reads_in}
use Rattle.keeps.specs.Groups.{Removable, group-removable, first_found, others-removable}
use Rattle.run.specs.Demand.{Call, drops, make, after}
use Rattle.run.proofs.Drop.{removed-reads}
use Rattle.run.specs.RecutDrop.{Ending, refuses, accepts, stored-ending}
use Rattle.run.specs.DropRows.{marker_gone, removal-rows}
use Rattle.run.proofs.Run.{after-reads}
use Rattle.run.specs.stall.Stall.{PassStart, moment, is_basic, objective_pass, remove_passes, drop_passes, passes_of, budget_of, NoReturn, Different, NoSetTwice, NeverReturns}
use Rattle.run.proofs.stall.Moments.{rows_stay}
use Rattle.run.proofs.stall.Pass.{Starts, Unmarred, moment-up}
use Rattle.run.proofs.stall.Calls.{unmarred, all-returns}
use Rattle.run.proofs.stall.Whole.{starts}

-- ---- a set that another one holds is no larger

-- has a row
abbrev basic_in : ℕ → List Basic → Bool
basic_in j bs = elim (find_row j bs) as (λ _. Bool) [ none ↦ false | some r ↦ true ]

found-above : (i j : ℕ) (bs : List Basic) → UpRows i bs → basic_in j bs ≡ true → i < j
found-above i j [] u f = absurd (true≢false (sym f ∙ ap (λ (o : Option Row). elim o as (λ _. Bool) [ none ↦ false | some r ↦ true ]) (find_none j)))
found-above i j (b ∷ bs) u f = go (sym? j b.symbol) (found-above b.symbol.id j bs u.1)
  where
    go : Sym? j b.symbol → (basic_in j bs ≡ true → b.symbol.id < j) → i < j
    go (is e p d) ih = omega (arith, u.0, p)
    go (isnt e p d) ih = omega (arith, u.0, ih (sym (ap (λ (o : Option Row). elim o as (λ _. Bool) [ none ↦ false | some r ↦ true ]) (find-miss j b bs e)) ∙ f))

dropped-one : (j : ℕ) (bs : List Basic) → basic_in j bs ≡ true → length bs ≡ suc (length (drop_row j bs))
unfolding drop_row find_row
dropped-one j [] f = absurd (true≢false (sym f))
dropped-one j (b ∷ bs) f = go (is_symbol j b.symbol) f (dropped-one j bs)
  where
    go : (t : Bool) → elim (elim t as (λ _. Option Row) [ true ↦ some b.row | false ↦ find_row j bs ]) as (λ _. Bool) [ none ↦ false | some r ↦ true ] ≡ true → (basic_in j bs ≡ true → length bs ≡ suc (length (drop_row j bs)))
        → suc (length bs) ≡ suc (length {A = Basic} (elim t as (λ _. List Basic) [ true ↦ bs | false ↦ b ∷ drop_row j bs ]))
    go true f ih = refl
    go false f ih = ap suc (ih f)

held_by : (i : ℕ) (xs bs : List Basic) → UpRows i xs → ((j : ℕ) → basic_in j xs ≡ true → basic_in j bs ≡ true) → length xs ≤ length bs
held_by i [] bs u h = omega arith
held_by i (a ∷ xs) bs u h = omega (arith, dropped-one k bs first, held_by k xs (drop_row k bs) u.1 rest)
  where
    k : ℕ
    k = a.symbol.id

    own : basic_in k (a ∷ xs) ≡ true
    own = go (sym? k a.symbol)
      where
        go : Sym? k a.symbol → basic_in k (a ∷ xs) ≡ true
        go (is e p d) = ap (λ (o : Option Row). elim o as (λ _. Bool) [ none ↦ false | some r ↦ true ]) (find-hit k a xs e)
        go (isnt e p d) = absurd (p refl)

    first : basic_in k bs ≡ true
    first = h k own

    rest : (j : ℕ) → basic_in j xs ≡ true → basic_in j (drop_row k bs) ≡ true
    rest j f =
        let other : j ≢ k = λ e. omega (arith, e, found-above k j xs u.1 f) in
        ap (λ (o : Option Row). elim o as (λ _. Bool) [ none ↦ false | some r ↦ true ]) (find-drop-other j k bs other) ∙ h j (later other (sym? j a.symbol) f)
      where
        later : j ≢ k → Sym? j a.symbol → basic_in j xs ≡ true → basic_in j (a ∷ xs) ≡ true
        later n (is e p d) f = absurd (n p)
        later n (isnt e p d) f = ap (λ (o : Option Row). elim o as (λ _. Bool) [ none ↦ false | some r ↦ true ]) (find-miss j a xs e) ∙ f

-- ---- the rows of a drop's passes fall

abbrev rows_at : PassStart → ℕ
rows_at p = length p.work.tableau.rows

Falls : ℕ → List PassStart → Type 0
Falls n [] = Unit
Falls n (p ∷ ps) = (rows_at p < n) × Falls (rows_at p) ps

falls-from : (n k : ℕ) (ps : List PassStart) → n ≤ k → Falls n ps → Falls k ps
unfolding Falls
falls-from n k [] l f = tt
falls-from n k (p ∷ ps) l f = (omega (arith, l, f.0), f.1)

-- a removal that is refused before its pass leaves the state
before-pass : (d : Constraint) (b : ℕ) (s : State) (n p : ℕ) (m : Mark) → marker_gone d s ≡ refused n p m → (remove_stored d.number d b s).state ≡ s
before-pass d b s n p m e = unfold remove_stored remove_steps conclude refused_by ◌>>=◌ in rw e refl

removals-fall : (ds : List Constraint) (b : ℕ) (s : State) → readable s ≡ true → Removable ds s → Falls (length s.tableau.rows) (drop_passes ds b s)
unfolding drop_passes remove_passes Falls
removals-fall [] b s R f = tt
removals-fall (d ∷ ds) b s R f = by-start (marker_gone d s) refl (stored-ending d.number d b s) (λ e. removals-fall ds (b - one.answer.pivots) one.state (removed-reads d ds b s R f) (others-removable d ds b s f (reads_in s R) e))
  where
    one : Result
    one = remove_stored d.number d b s

    later : List PassStart
    later = drop_passes ds (b - one.answer.pivots) one.state

    at : Bool → List PassStart
    at t = elim t as (λ _. List PassStart) [ false ↦ [] | true ↦ later ]

    -- those after it, from n rows on
    rest : (n : ℕ) → (one.answer.number ≡ 0 → length one.state.tableau.rows ≤ n) → Ending s one → (one.answer.number ≡ 0 → Falls (length one.state.tableau.rows) later) → Falls n (at (eqb one.answer.number 0))
    rest n l (refuses k e _) on = subst (λ (j : ℕ). Falls n (at (eqb j 0))) (sym e) (subst (λ (t : Bool). Falls n (at t)) (sym (eqb-suc-zero k)) (unfold Falls in tt))
    rest n l (accepts e _ _) on = subst (λ (j : ℕ). Falls n (at (eqb j 0))) (sym e) (falls-from (length one.state.tableau.rows) n later (l e) (on e))

    by-start : (o : Outcome Work) → marker_gone d s ≡ o → Ending s one → (one.answer.number ≡ 0 → Falls (length one.state.tableau.rows) later)
        → Falls (length s.tableau.rows) (objective_pass b (purge_tag d.tag) o ++ at (eqb one.answer.number 0))
    by-start (refused n p m) e E on = unfold objective_pass in rest (length s.tableau.rows) (λ z. subst (λ (t : State). length t.tableau.rows ≤ length s.tableau.rows) (sym (before-pass d b s n p m e)) (omega arith)) E on
    by-start (going v) e E on =
        let h = removal-rows d b s R (first_found d ds b s f) v e in
        unfold objective_pass Falls in (h.0, rest (length (purge_tag d.tag v).tableau.rows) h.1 E on)

-- ---- no set twice

below : (n : ℕ) (ps : List PassStart) → Falls n ps → All (λ (p : PassStart). rows_at p < n) ps
unfolding Falls
below n [] f = tt
below n (p ∷ ps) f = (f.0, each n (rows_at p) ps f.0 (below (rows_at p) ps f.1))
  where
    each : (n k : ℕ) (qs : List PassStart) → k < n → All (λ (q : PassStart). rows_at q < k) qs → All (λ (q : PassStart). rows_at q < n) qs
    each n k [] l a = tt
    each n k (q ∷ qs) l a = (omega (arith, l, a.0), each n k qs l a.1)

different : (p : PassStart) → Starts p → Unmarred p → (q : PassStart) → rows_at q < rows_at p → Different p q
unfolding is_basic moment
different p S m q l i j u v a c same =
    omega (
      arith,
      l,
      rows_stay i p.left p.rule p.work u a,
      rows_stay j q.left q.rule q.work v c,
      held_by 0 u.tableau.rows v.tableau.rows (moment-up p S m i u a) (λ k f. sym (same k) ∙ f),
    )

all_apart : (n : ℕ) (ps : List PassStart) → Falls n ps → All Starts ps → All Unmarred ps → All NoReturn ps → NoSetTwice ps
unfolding Falls
all_apart n [] f s m r = tt
all_apart n (p ∷ ps) f s m r = (r.0, each ps (below (rows_at p) ps f.1), all_apart (rows_at p) ps f.1 s.1 m.1 r.1)
  where
    each : (qs : List PassStart) → All (λ (q : PassStart). rows_at q < rows_at p) qs → All (Different p) qs
    each [] a = tt
    each (q ∷ qs) a = (different p s.0 m.0 q a.0, each qs a.1)

passes-fall : (g b : ℕ) (s : State) → readable s ≡ true → Falls (length s.tableau.rows) (passes_of (drops g b) s)
unfolding passes_of
passes-fall g b s R = go (first_refusal (drop_tests g s)) refl
  where
    go : (o : Option ℕ) → first_refusal (drop_tests g s) ≡ o → Falls (length s.tableau.rows) (elim o as (λ _. List PassStart) [ some x ↦ [] | none ↦ drop_passes (group_of g s.constraints) b s ])
    go (some x) e = unfold Falls in tt
    go none e = removals-fall (group_of g s.constraints) b s R (group-removable g s (reads_in s R) e)

-- the mark of the drop's own answer is enough
pub marked-never-returns : (cut : Float) → cutoff_fits cut ≡ true → (cs : List Call) (g b : ℕ) → (make (drops g b) (after cut cs).state).answer.whole ≡ true → NoSetTwice (passes_of (drops g b) (after cut cs).state)
marked-never-returns cut fits cs g b w =
    let ps : List PassStart = passes_of (drops g b) (after cut cs).state in
    let budget : budget_of (drops g b) ≡ some b = unfold budget_of in refl in
    let S : All Starts ps = starts cut fits cs (drops g b) b budget w in
    let m : All Unmarred ps = unmarred b (drops g b) (after cut cs).state budget w in
    all_apart (length (after cut cs).state.tableau.rows) ps (passes-fall g b (after cut cs).state (after-reads cut fits cs)) S m (all-returns ps S m)

-- NO BASIC SET TWICE OVER A DROP
pub never-returns : NeverReturns
never-returns cut fits cs g b w = marked-never-returns cut fits cs g b w.1
