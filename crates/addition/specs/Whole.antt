-- The seven steps together: what was handed in, the row created, added, and the pass over the objective; how they end.
-- Assumes nothing.
use Rattle.std.specs.Prelude.{ℕ, ◌+◌, ◌≤◌, ◌<◌, ◌≡◌, Bool, true, cond, List, [], eqb, length, Float, Result, Ok, Err}
use Rattle.std.proofs.Math.Path.{refl}
use Rattle.std.proofs.Common.{sym, ap, ◌∙◌, subst, arith}
use Rattle.std.proofs.Math.Bool.{false}
use Rattle.laws.specs.Given.{Then, then-of}
use Rattle.steps.specs.Number.{Mark, worse, whole_if}
use Rattle.steps.specs.State.{Term, Relation, Tag}
use Rattle.steps.specs.Work.{Work, Outcome, refused, going, ◌>>=◌, marking}
use Rattle.steps.specs.CreateRow.{Created, create_row}
use Rattle.steps.specs.Add as add
use Rattle.steps.specs.Add.{whole_inputs, add_steps}
use Rattle.steps.specs.Readable.{uses_in}
use Rattle.steps.specs.Tests.{kept_terms, new_variables}
use Rattle.keeps.specs.Fits.{fits-worse}
use Rattle.keeps.specs.Frame.{mark-frame}
use Rattle.keeps.specs.Good.{Good, good-frame}
use Rattle.keeps.specs.Creating.{Tagged, create_row-tagged}
use Rattle.rows.specs.declared.number.Wrote.{Wrote}
use Rattle.rows.specs.Marks.{mark_of}
use Rattle.layout.specs.cells.Names.{last_place}
use Rattle.sparse.specs.Places.{most_rows}
use Rattle.sparse.specs.Sparse.{Sparse, symbol_count, row_count, symbols_of}
use Rattle.waist.specs.Working.{work_of, artificial_of}
use Rattle.waist.specs.Holding.{standing-worse}
use Rattle.waist.specs.Tags.{tag_at}
use Rattle.sparse.specs.Refusals.{refusal_number}
use Rattle.waist.specs.declared.ending.Refused.{Refused}
use Rattle.waist.specs.Ending.{Ended, outcome_of, ended_of, refuses}
use Rattle.addition.specs.declared.creation.tag.Tagged.{Tagged as Tags}
use Rattle.addition.specs.creation.Tags.{created_of}
use Rattle.addition.specs.creation.Created.{Opening, Creates}
use Rattle.addition.specs.declared.add.Added.{Added}
use Rattle.addition.specs.Adding.{created_by, Made}
use Rattle.addition.specs.Symbols.{Alike, symbols-are, alike-by, tag-alike}
use Rattle.addition.specs.Kept.{row_kept, kept_at}
use Rattle.addition.specs.Stepped.{added_row}

-- how Add's steps end, with the constraint's symbols
unfoldable pub added_of : Result Added Refused → Sparse → Outcome add.Added
added_of (Ok a) t = going (record { work = work_of false (mark_of a.went.wrote) a.went.pivots t; tag = tag_at t a.marker a.other })
added_of (Err e) t = refused (refusal_number e.why) e.pivots (mark_of e.wrote)

-- by the number
abbrev pub added_by : Ended → ℕ → ℕ → Sparse → Outcome add.Added
added_by x marker other t = cond (eqb x.number 0) (going (record { work = work_of false (mark_of x.wrote) x.pivots t; tag = tag_at t marker other })) (refused x.number x.pivots (mark_of x.wrote))

pub added-refusal : (e : Refused) (marker other : ℕ) (t : Sparse) → added_of (Err e) t ≡ added_by (ended_of (Err e)) marker other t
unfolding added_of
added-refusal e marker other t = rw (refuses e.why) refl

-- ---- what was handed in

opening-worse : (a m : Mark) (terms : List Term) (constant : Float) (t : Sparse) → Opening a terms constant t → Opening (worse a m) terms constant t
opening-worse a m terms constant t o =
    record {
      standing = standing-worse false a m t o.standing;
      K = o.K;
      U = o.U;
      good = good;
      finite = o.finite;
      few-terms = o.few-terms;
      few-rows = o.few-rows;
      few-variables = o.few-variables;
      few-symbols = o.few-symbols;
      few-ids = o.few-ids;
    }
  where
    good : Good o.K o.U (work_of false (worse a m) 0 t)
    good = unfold work_of marking in good-frame o.K o.U (work_of false a 0 t) (marking m (work_of false a 0 t)) o.good (fits-worse o.good.fits m) (mark-frame m (work_of false a 0 t))

pub opening-first : (past first : Wrote) (m : Mark) (terms : List Term) (constant : Float) (t : Sparse) → mark_of first ≡ worse (mark_of past) m → Opening (mark_of past) terms constant t → Opening (mark_of first) terms constant t
opening-first past first m terms constant t e o = rw e (opening-worse (mark_of past) m terms constant t o)

-- ---- the row created

created-by : (r : Tags) (t : Sparse) (row : List Float) → created_by (mark_of r.wrote) r.marker r.other t row ≡ created_of r t row
unfolding created_of
created-by r t row = refl

module _ (first : Wrote) (terms : List Term) (constant : Float) (relation : Relation) (t : Sparse) (r : Tags) (t₁ : Sparse) (row : List Float)
    (o : Opening (mark_of first) terms constant t) (l : Creates terms constant relation (mark_of first) t t₁ row r) where
  pub made_by : Made (mark_of r.wrote) r.marker r.other t₁ row
  made_by =
      record {
        fitting = record { standing = l.stands; few-symbols = few.0; few-rows = few.1; few-ids = l.few-ids; settled = l.settled; holds = tagged.row };
        low = l.own.marker-low;
        high = l.own.marker-high;
        near = l.own.other-high;
        K = o.K;
        U = U;
        N = length before.tableau.rows;
        L = L;
        tagged = tagged;
      }
    where
      few : (symbol_count t₁ < last_place) × (row_count t₁ + 2 < most_rows)
      few = let k = l.few-symbols in let m = l.few-rows in (omega (arith, k), omega (arith, m))

      before : Work
      before = work_of false (mark_of first) 0 t

      U : ℕ → ℕ
      U m = uses_in m (kept_terms before.tableau.cutoff terms) + o.U m

      L : ℕ
      L = length before.changes.variables + length (new_variables before.changes.variables [] (kept_terms before.tableau.cutoff terms))

      tagged : Tagged o.K U (length before.tableau.rows) L (created_by (mark_of r.wrote) r.marker r.other t₁ row)
      tagged =
          subst (Tagged o.K U (length before.tableau.rows) L) (sym (created-by r t₁ row ∙ l.reads))
          (create_row-tagged o.K o.U terms constant relation before o.good (unfold work_of artificial_of in refl) o.finite)

-- ---- the end

abbrev ending : ℕ → Created → Outcome add.Added
ending budget c = added_row budget c >>= (λ v. going (record { work = v; tag = c.tag }))

-- the tag at the end, where the steps go on, is the one that was created
added-outcome : (x : Ended) (marker other : ℕ) (z : Sparse) (tag : Tag) → (eqb x.number 0 ≡ true → tag_at z marker other ≡ tag)
    → added_by x marker other z ≡ (outcome_of false x z >>= (λ v. going (record { work = v; tag = tag })))
unfolding outcome_of ◌>>=◌
added-outcome x marker other z tag same = by (eqb x.number 0) same
  where
    work : Work
    work = work_of false (mark_of x.wrote) x.pivots z

    by : (b : Bool) → (b ≡ true → tag_at z marker other ≡ tag)
        → cond {A = Outcome add.Added} b (going (record { work = work; tag = tag_at z marker other })) (refused x.number x.pivots (mark_of x.wrote))
        ≡ (cond {A = Outcome Work} b (going work) (refused x.number x.pivots (mark_of x.wrote)) >>= (λ v. going (record { work = v; tag = tag })))
    by true f = ap (λ (y : Tag). going (record { work = work; tag = y })) (f refl)
    by false f = refl

-- no step after the row's creation moves a symbol
end-alike : (a : Mark) (marker other : ℕ) (t : Sparse) (row : List Float) → Made a marker other t row → (budget : ℕ) (x : Ended) (z : Sparse)
    → outcome_of false x z ≡ added_row budget (created_by a marker other t row) → eqb x.number 0 ≡ true → Alike t z
end-alike a marker other t row m budget x z q on =
    let c : Created = created_by a marker other t row in
    let k : symbols_of z ≡ (work_of false a 0 t).tableau.symbols = kept_at false x z c.work (added_row budget c) q (row_kept c m.fitting.standing.fits.under budget) on in
    alike-by t z (k ∙ symbols-are false a 0 t)

tag_stays : (a : Mark) (marker other : ℕ) (t : Sparse) (row : List Float) → Made a marker other t row → (budget : ℕ) (x : Ended) (z : Sparse)
    → outcome_of false x z ≡ added_row budget (created_by a marker other t row) → eqb x.number 0 ≡ true → tag_at z marker other ≡ tag_at t marker other
tag_stays a marker other t row m budget x z q on = tag-alike t z (end-alike a marker other t row m budget x z q on) marker other m.low m.high m.near

pub tag-live : (a : Mark) (marker other : ℕ) (t : Sparse) (row : List Float) → Made a marker other t row → (budget : ℕ) (x : Ended) (z : Sparse)
    → outcome_of false x z ≡ added_row budget (created_by a marker other t row) → Then (eqb x.number 0) ((1 ≤ marker) × (marker ≤ symbol_count z) × (other ≤ symbol_count z))
tag-live a marker other t row m budget x z q =
    then-of _ (eqb x.number 0) λ on.
    let k : symbol_count z ≡ symbol_count t = (end-alike a marker other t row m budget x z q on).count in
    (m.low, rw k m.high, rw k m.near)

pub steps-are : (past first : Wrote) (budget : ℕ) (terms : List Term) (constant : Float) (relation : Relation) (t : Sparse) (r : Tags) (t₁ : Sparse) (row : List Float) (x : Ended) (z : Sparse)
    → mark_of first ≡ worse (mark_of past) (whole_if (whole_inputs terms constant relation))
    → created_of r t₁ row ≡ create_row terms constant relation (work_of false (mark_of first) 0 t) → Made (mark_of r.wrote) r.marker r.other t₁ row
    → outcome_of false x z ≡ added_row budget (created_by (mark_of r.wrote) r.marker r.other t₁ row)
    → added_by x r.marker r.other z ≡ add_steps budget terms constant relation (work_of false (mark_of past) 0 t)
unfolding add_steps
steps-are past first budget terms constant relation t r t₁ row x z i e m q =
    added-outcome x r.marker r.other z (tag_at t₁ r.marker r.other) (tag_stays (mark_of r.wrote) r.marker r.other t₁ row m budget x z q)
    ∙ ap (λ (o : Outcome Work). o >>= (λ v. going (record { work = v; tag = tag_at t₁ r.marker r.other }))) q
    ∙ ap (ending budget) created-is
  where
    before : Work
    before = work_of false (mark_of past) 0 t

    worked : (m : Mark) → work_of false (worse (mark_of past) m) 0 t ≡ marking m before
    worked m = unfold work_of marking in refl

    first-is : work_of false (mark_of first) 0 t ≡ marking (whole_if (whole_inputs terms constant relation)) before
    first-is = ap (λ (k : Mark). work_of false k 0 t) i ∙ worked (whole_if (whole_inputs terms constant relation))

    created-is : created_by (mark_of r.wrote) r.marker r.other t₁ row ≡ create_row terms constant relation (marking (whole_if (whole_inputs terms constant relation)) before)
    created-is = created-by r t₁ row ∙ e ∙ ap (create_row terms constant relation) first-is
