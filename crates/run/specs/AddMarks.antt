-- In Add's steps the mark only gets worse: whole at the end, it was whole all along. Assumes nothing.
use Rattle.std.specs.Prelude.{ℕ, ◌-◌, ◌≡◌, refl, ◌⊎◌, Bool, false, List, map, Float}
use Rattle.std.proofs.Math.Path.{sym}
use Rattle.std.proofs.Common.{ap, ◌∙◌, inl, inr}
use Rattle.std.proofs.Math.Bool.{true}
use Rattle.std.proofs.Math.Option.{Option, none, some}
use Rattle.steps.specs.Number.{zero64, near_zero, below_zero, Mark, all_whole, not_whole, not_finite, whole_if}
use Rattle.steps.specs.Symbol.{Slack, Symbol}
use Rattle.steps.specs.Row.{Row, solve_for_symbol, reverse_sign}
use Rattle.steps.specs.State.{Term, Relation, Tag}
use Rattle.steps.specs.Work.{Work, Outcome, refused, going, ◌>>=◌, refuse, check_finite, marking, with_rows, with_artificial, with_tableau, append_symbol, new_symbol, find_row, purge}
use Rattle.steps.specs.Substitute.{enter_basis, pivot}
use Rattle.steps.specs.Optimise.{the_objective, the_artificial, optimise}
use Rattle.steps.specs.CreateRow.{Building, Created, append_to, insert_terms, add_tag, create_row, choose_subject, all_dummies}
use Rattle.steps.specs.Artificial.{stand_temporary, remove_temporary, is_empty_row, any_pivotable_symbol, artificial_constant_near_zero, add_with_artificial_variable}
use Rattle.steps.specs.Add.{whole_inputs, add_with_subject, add_created, Added, add_steps}
use Rattle.simplex.specs.bridge.Nums.{finite≢, worse-l, worse-r, whole-if}
use Rattle.simplex.proofs.bridge.Table.{enter-parts}
use Rattle.simplex.specs.bridge.Runs.{mark_of}
use Rattle.simplex.proofs.bridge.Runs.{pivot-mark, optimise-mark}
use Rattle.run.specs.BuildSum.{terms-mark}
use Rattle.run.specs.BuildTags.{tag-mark}

-- ---- steps 1 to 3
pub created-mark : (ts : List Term) (k : Float) (r : Relation) (w : Work) → (create_row ts k r w).work.mark ≡ all_whole → w.mark ≡ all_whole
unfolding create_row
created-mark ts k r w = go (below_zero c.row.constant)
  where
    b : Building
    b = insert_terms w.tableau.cutoff ts (record { work = w; row = record { constant = k; cells = map (λ _. zero64) w.tableau.symbols } })

    c : Created
    c = add_tag r (insert_terms w.tableau.cutoff ts (record { work = w; row = record { constant = k; cells = map (λ _. zero64) w.tableau.symbols } }))

    go : (t : Bool) → (elim t as (λ _. Created) [ false ↦ c | true ↦ record { work = c.work; row = reverse_sign c.row; tag = c.tag } ]).work.mark ≡ all_whole → w.mark ≡ all_whole
    go false m = terms-mark w.tableau.cutoff ts (record { work = w; row = record { constant = k; cells = map (λ _. zero64) w.tableau.symbols } }) (tag-mark r b m)
    go true m = terms-mark w.tableau.cutoff ts (record { work = w; row = record { constant = k; cells = map (λ _. zero64) w.tableau.symbols } }) (tag-mark r b m)

pub marked : (m : Mark) (w : Work) → (marking m w).mark ≡ all_whole → (w.mark ≡ all_whole) × (m ≡ all_whole)
unfolding marking
marked m w e = (worse-l w.mark m e, worse-r w.mark m e)

-- ---- steps 4 to 6
pub finite-mark : (x : Work) → mark_of (check_finite x) ≡ all_whole → x.mark ≡ all_whole
unfolding check_finite refuse mark_of
finite-mark x = go x.mark refl
  where
    go : (m : Mark) → x.mark ≡ m → mark_of (elim m [ all_whole ↦ going x | not_whole ↦ going x | not_finite ↦ refused 13 x.pivots x.mark ]) ≡ all_whole → x.mark ≡ all_whole
    go all_whole e m = m
    go not_whole e m = m
    go not_finite e m = m

pub subject-mark : (s : Symbol) (c : Created) → mark_of (add_with_subject s c) ≡ all_whole → c.work.mark ≡ all_whole
unfolding add_with_subject
subject-mark s c m =
    let row : Row = (solve_for_symbol s.id c.work.tableau.symbols c.row).row in
    let mk : Mark = (solve_for_symbol s.id c.work.tableau.symbols c.row).mark in
    let v : Work = marking mk c.work in
    (marked mk c.work (worse-l v.mark _ (sym (enter-parts s row v).mark ∙ finite-mark (enter_basis s row v) m))).0

pub temporary-mark : (t : Symbol) (w : Work) → mark_of (remove_temporary t w) ≡ all_whole → w.mark ≡ all_whole
unfolding remove_temporary mark_of refuse purge with_tableau
temporary-mark t w = by_row (find_row t.id w.tableau.rows)
  where
    after-pivot : (x : Outcome Work) → (mark_of x ≡ all_whole → w.mark ≡ all_whole) → mark_of (x >>= λ v. going (purge t.id v)) ≡ all_whole → w.mark ≡ all_whole
    after-pivot (refused k p m) f e = f (unfold ◌>>=◌ in e)
    after-pivot (going v) f e = f (unfold ◌>>=◌ in e)

    by-symbol : (o : Option Symbol) → mark_of (elim o as (λ _. Outcome Work) [ none ↦ refuse 12 w | some e ↦ check_finite (pivot t.id e w) >>= λ v. going (purge t.id v) ]) ≡ all_whole → w.mark ≡ all_whole
    by-symbol none m = m
    by-symbol (some e) m = after-pivot (check_finite (pivot t.id e w)) (λ q. pivot-mark t.id e w (finite-mark (pivot t.id e w) q)) m

    by-empty : (r : Row) (b : Bool) → mark_of (elim b as (λ _. Outcome Work) [ true ↦ going (purge t.id w) | false ↦ elim (any_pivotable_symbol r w) as (λ _. Outcome Work) [ none ↦ refuse 12 w | some e ↦ check_finite (pivot t.id e w) >>= λ v. going (purge t.id v) ] ]) ≡ all_whole
        → w.mark ≡ all_whole
    by-empty r true m = m
    by-empty r false m = by-symbol (any_pivotable_symbol r w) m

    by_row : (o : Option Row)
        → mark_of (elim o as (λ _. Outcome Work) [ none ↦ going (purge t.id w) | some r ↦ elim (is_empty_row r w) as (λ _. Outcome Work) [ true ↦ going (purge t.id w) | false ↦ elim (any_pivotable_symbol r w) as (λ _. Outcome Work) [ none ↦ refuse 12 w | some e ↦ check_finite (pivot t.id e w) >>= λ v. going (purge t.id v) ] ] ]) ≡ all_whole
        → w.mark ≡ all_whole
    by_row none m = m
    by_row (some r) m = by-empty r (is_empty_row r w) m

standing-mark : (t : Symbol) (c : Created) → (stand_temporary t (record { work = c.work; row = c.row })).mark ≡ c.work.mark
unfolding stand_temporary append_to with_artificial with_rows with_tableau append_symbol
standing-mark t c = refl

pub none-mark : (w : Work) → (with_artificial none w).mark ≡ w.mark
unfolding with_artificial
none-mark w = refl

-- what comes after a pass keeps its mark
pub bound-mark : (x : Outcome Work) (f : Work → Outcome Work) → ((v : Work) → mark_of (f v) ≡ all_whole → v.mark ≡ all_whole) → mark_of (x >>= f) ≡ all_whole → mark_of x ≡ all_whole
unfolding mark_of ◌>>=◌
bound-mark (refused k p m) f h e = e
bound-mark (going v) f h e = h v e

artificial-mark : (budget : ℕ) (c : Created) → mark_of (add_with_artificial_variable budget c) ≡ all_whole → c.work.mark ≡ all_whole
unfolding add_with_artificial_variable
artificial-mark budget c m =
    let t : Symbol = new_symbol Slack c.work in
    let v : Work = stand_temporary t (record { work = c.work; row = c.row }) in
    sym (standing-mark t c) ∙ optimise-mark (budget - v.pivots) the_artificial v
    (bound-mark (optimise (budget - v.pivots) the_artificial v) (λ w. elim (artificial_constant_near_zero w) as (λ _. Outcome Work) [ false ↦ refuse 12 w | true ↦ remove_temporary t (with_artificial none w) ])
    (λ w. ends t w (artificial_constant_near_zero w)) m)
  where
    ends : (t : Symbol) (w : Work) (b : Bool) → mark_of (elim b as (λ _. Outcome Work) [ false ↦ refuse 12 w | true ↦ remove_temporary t (with_artificial none w) ]) ≡ all_whole → w.mark ≡ all_whole
    ends t w false e = unfold refuse mark_of in e
    ends t w true e = sym (none-mark w) ∙ temporary-mark t (with_artificial none w) e

pub subject-or-artificial-mark : (budget : ℕ) (c : Created) → mark_of (add_created budget c) ≡ all_whole → c.work.mark ≡ all_whole
unfolding add_created
subject-or-artificial-mark budget c = by-subject (choose_subject c)
  where
    by_zero : (b : Bool) → mark_of (elim b as (λ _. Outcome Work) [ false ↦ refuse 12 c.work | true ↦ add_with_subject c.tag.marker c ]) ≡ all_whole → c.work.mark ≡ all_whole
    by_zero false m = unfold refuse mark_of in m
    by_zero true m = subject-mark c.tag.marker c m

    by-dummies : (b : Bool) → mark_of (elim b as (λ _. Outcome Work) [ false ↦ add_with_artificial_variable budget c | true ↦ elim (near_zero c.work.tableau.cutoff c.row.constant) as (λ _. Outcome Work) [ false ↦ refuse 12 c.work | true ↦ add_with_subject c.tag.marker c ] ]) ≡ all_whole → c.work.mark ≡ all_whole
    by-dummies false m = artificial-mark budget c m
    by-dummies true m = by_zero (near_zero c.work.tableau.cutoff c.row.constant) m

    by-subject : (o : Option Symbol)
        → mark_of (elim o as (λ _. Outcome Work) [ some s ↦ add_with_subject s c | none ↦ elim (all_dummies c) as (λ _. Outcome Work) [ false ↦ add_with_artificial_variable budget c | true ↦ elim (near_zero c.work.tableau.cutoff c.row.constant) as (λ _. Outcome Work) [ false ↦ refuse 12 c.work | true ↦ add_with_subject c.tag.marker c ] ] ]) ≡ all_whole
        → c.work.mark ≡ all_whole
    by-subject (some s) m = subject-mark s c m
    by-subject none m = by-dummies (all_dummies c) m

-- ---- the steps of an add, one after the other
unfoldable pub mark_added : Outcome Added → Mark
mark_added (refused n p m) = m
mark_added (going a) = a.work.mark

-- the created row, from the marked work
unfoldable pub created_of : List Term → Float → Relation → Work → Created
created_of ts k r w = create_row ts k r (marking (whole_if (whole_inputs ts k r)) w)

-- steps 4 to 7
unfoldable pub placed_and_rested : ℕ → Created → Outcome Work
placed_and_rested budget c = add_created budget c >>= λ v. optimise (budget - v.pivots) the_objective v

unfoldable pub added_by : Tag → Outcome Work → Outcome Added
added_by t x = x >>= λ v. going (record { work = v; tag = t })

-- with the mark whole no step refuses 13, and every step was whole
pub record WholeSteps (budget : ℕ) (ts : List Term) (k : Float) (r : Relation) (w : Work) : Type 0 where
  pub steps : add_steps budget ts k r w ≡ added_by (created_of ts k r w).tag (placed_and_rested budget (created_of ts k r w))
  pub last : mark_of (placed_and_rested budget (created_of ts k r w)) ≡ all_whole
  pub middle : mark_of (add_created budget (created_of ts k r w)) ≡ all_whole
  pub created : (created_of ts k r w).work.mark ≡ all_whole
  pub inputs : whole_inputs ts k r ≡ true

checked : (x : Work) → (check_finite x ≡ going x) ⊎ ((x.mark ≡ not_finite) × (check_finite x ≡ refused 13 x.pivots x.mark))
unfolding check_finite refuse
checked x = go x.mark refl
  where
    go : (m : Mark) → x.mark ≡ m → (◌≡◌ {A = Outcome Work} (elim m [ all_whole ↦ going x | not_whole ↦ going x | not_finite ↦ refused 13 x.pivots x.mark ]) (going x))
        ⊎ ((x.mark ≡ not_finite) × (◌≡◌ {A = Outcome Work} (elim m [ all_whole ↦ going x | not_whole ↦ going x | not_finite ↦ refused 13 x.pivots x.mark ]) (refused 13 x.pivots x.mark)))
    go all_whole e = inl refl
    go not_whole e = inl refl
    go not_finite e = inr (e, refl)

-- what follows the test of the created row
pub afterwards : ℕ → Created → Outcome Work → Outcome Added
afterwards budget c x = x >>= (λ _. add_created budget c) >>= (λ v. optimise (budget - v.pivots) the_objective v) >>= (λ v. going (record { work = v; tag = c.tag }))

pub steps-are : (budget : ℕ) (ts : List Term) (k : Float) (r : Relation) (w : Work) → add_steps budget ts k r w ≡ afterwards budget (created_of ts k r w) (check_finite (created_of ts k r w).work)
unfolding add_steps created_of afterwards
steps-are budget ts k r w = refl

pub goes_on : (budget : ℕ) (c : Created) → afterwards budget c (going c.work) ≡ added_by c.tag (placed_and_rested budget c)
unfolding afterwards added_by placed_and_rested ◌>>=◌
goes_on budget c = refl

stops : (budget : ℕ) (c : Created) (p : ℕ) (m : Mark) → mark_added (afterwards budget c (refused 13 p m)) ≡ m
unfolding afterwards ◌>>=◌ mark_added
stops budget c p m = refl

added-mark : (t : Tag) (x : Outcome Work) → mark_added (added_by t x) ≡ all_whole → mark_of x ≡ all_whole
unfolding added_by mark_added mark_of ◌>>=◌
added-mark t (refused k p m) e = e
added-mark t (going v) e = e

pub whole-steps : (budget : ℕ) (ts : List Term) (k : Float) (r : Relation) (w : Work) → mark_added (add_steps budget ts k r w) ≡ all_whole → WholeSteps budget ts k r w
unfolding placed_and_rested created_of
whole-steps budget ts k r w h = go (checked (created_of ts k r w).work)
  where
    from : add_steps budget ts k r w ≡ added_by (created_of ts k r w).tag (placed_and_rested budget (created_of ts k r w)) → WholeSteps budget ts k r w
    from e =
        let last : mark_of (placed_and_rested budget (created_of ts k r w)) ≡ all_whole = added-mark (created_of ts k r w).tag (placed_and_rested budget (created_of ts k r w)) (sym (ap mark_added e) ∙ h) in
        let middle : mark_of (add_created budget (created_of ts k r w)) ≡ all_whole = passed last in
        let made : (created_of ts k r w).work.mark ≡ all_whole = subject-or-artificial-mark budget (created_of ts k r w) middle in
        record { steps = e; last = last; middle = middle; created = made; inputs = whole-if (whole_inputs ts k r) (marked (whole_if (whole_inputs ts k r)) w (created-mark ts k r (marking (whole_if (whole_inputs ts k r)) w) made)).1 }
      where
        passed : mark_of (placed_and_rested budget (created_of ts k r w)) ≡ all_whole → mark_of (add_created budget (created_of ts k r w)) ≡ all_whole
        passed m = bound-mark (add_created budget (created_of ts k r w)) (λ v. optimise (budget - v.pivots) the_objective v) (λ v q. optimise-mark (budget - v.pivots) the_objective v q) m

    go : (check_finite (created_of ts k r w).work ≡ going (created_of ts k r w).work) ⊎ (((created_of ts k r w).work.mark ≡ not_finite) × (check_finite (created_of ts k r w).work ≡ refused 13 (created_of ts k r w).work.pivots (created_of ts k r w).work.mark))
        → WholeSteps budget ts k r w
    go (inl e) = from (steps-are budget ts k r w ∙ ap (afterwards budget (created_of ts k r w)) e ∙ goes_on budget (created_of ts k r w))
    go (inr e) =
        absurd (finite≢ (sym e.0 ∙ sym (stops budget (created_of ts k r w) (created_of ts k r w).work.pivots (created_of ts k r w).work.mark)
        ∙ sym (ap mark_added (steps-are budget ts k r w ∙ ap (afterwards budget (created_of ts k r w)) e.1)) ∙ h))
