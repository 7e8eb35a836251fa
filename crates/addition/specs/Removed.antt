-- The temporary goes: the tables read as the steps' remove_temporary, and stand.
-- Assumes nothing.
use Rattle.std.specs.Prelude.{ℕ, ◌+◌, ◌≡◌, Bool, get_or, Float}
use Rattle.std.proofs.Math.Path.{refl, ap}
use Rattle.std.proofs.Common.{sym, ◌∙◌}
use Rattle.std.proofs.Math.Bool.{true, false}
use Rattle.std.proofs.Math.Option.{Option, none, some}
use Rattle.std.proofs.Math.Dec.{eqb}
use Rattle.std.specs.Float.{nan}
use Rattle.steps.specs.Number.{near_zero, Mark}
use Rattle.steps.specs.Symbol.{Symbol}
use Rattle.steps.specs.Row.{Row}
use Rattle.steps.specs.Work.{Work, Outcome, refused, going, ◌>>=◌, refuse, check_finite, with_artificial, find_row, purge}
use Rattle.steps.specs.Substitute.{pivot}
use Rattle.steps.specs.Artificial.{any_pivotable_symbol, is_empty_row, remove_temporary, artificial_constant_near_zero}
use Rattle.rows.specs.declared.number.Wrote.{Wrote}
use Rattle.rows.specs.Marks.{mark_of}
use Rattle.rows.specs.choose.Choose.{Found}
use Rattle.std.specs.Prelude.{Some, None}
use Rattle.rows.specs.choose.Choose.{on_found}
use Rattle.sparse.specs.Places.{row_places_at, constants_at}
use Rattle.sparse.specs.Sparse.{Sparse, symbol_count, row_count, symbol_at, basic_of, basics_of, read}
use Rattle.waist.specs.Working.{work_of, cutoff_of, artificial_of, Sound, basic-symbol}
use Rattle.waist.specs.Standing.{Makes, row_symbol, Chooses}
use Rattle.waist.specs.Rows.{row_for, row_at, row-found}
use Rattle.waist.specs.Ending.{Ended, outcome_of, Goes, ended, goes_on, checked_of, checked-is, is-refused, refused-then, going-then, none_then}
use Rattle.addition.specs.Adding.{Temporary}
use Rattle.addition.specs.Symbols.{rows_are}

-- ---- the steps, by what is found

-- the row is not empty: "pivot on the row's first slack or Error (none: refuse 12)"
abbrev pub pivoted_out : ℕ → Work → Option Symbol → Outcome Work
pivoted_out id w o = elim o [ none ↦ refuse 12 w | some e ↦ check_finite (pivot id e w) >>= λ v. going (purge id v) ]

-- "drop an empty row, else pivot"
abbrev emptied : ℕ → Work → Row → Bool → Outcome Work
emptied id w r b = elim b [ true ↦ going (purge id w) | false ↦ pivoted_out id w (any_pivotable_symbol r w) ]

abbrev removal : ℕ → Work → Option Row → Outcome Work
removal id w o = elim o [ none ↦ going (purge id w) | some r ↦ emptied id w r (is_empty_row r w) ]

removal-is : (t : Symbol) (w : Work) → removal t.id w (find_row t.id w.tableau.rows) ≡ remove_temporary t w
unfolding remove_temporary
removal-is t w = refl

-- ---- the row of the symbol at place p, as it is looked up

pub record Looked (p : ℕ) (t : Sparse) (f : Found) : Type 0 where
  pub row : find_row (symbol_at t p).id (basics_of t) ≡ on_found (λ i. some (basic_of t i).row) none f
  pub own : (i : ℕ) → f ≡ Some i → get_or t.bytes (row_places_at + i) 0 ≡ p

pub looked-by : (p : ℕ) (t : Sparse) → Sound false t → Temporary p t → {f : Found} → f ≡ row_for p t.words t.bytes → Looked p t f
looked-by p t so x e = record { row = row-found false t so p x.low x.high ∙ ap (on_found (λ i. some (basic_of t i).row) none) (sym e); own = λ i q. row_at t p i (sym e ∙ q) }

pub looked-at : {p i : ℕ} {t : Sparse} {f : Found} → Looked p t f → f ≡ Some i → Looked p t (Some i)
looked-at l e = rw e at l

module _ (past : Wrote) (pivots : ℕ) (t : Sparse) where
  abbrev work : Work
  work = work_of false (mark_of past) pivots t

  -- what is left of row i, if it is not empty
  abbrev pub out_of : ℕ → ℕ → Outcome Work
  out_of id i = pivoted_out id work (any_pivotable_symbol (basic_of t i).row work)

  pub purge-calls : (id : ℕ) (u : Sparse) → Makes false false (mark_of past) (mark_of past) (purge id) t u
      → (outcome_of false (ended 0 pivots past) u ≡ going (purge id work)) × Goes false (ended 0 pivots past) u
  purge-calls id u m = (goes_on false pivots past u ∙ ap (λ (x : Work). going x) (m.reads pivots), m.stands)

  twelve-is : ◌≡◌ {A = Outcome Work} (refused 12 pivots (mark_of past)) (refuse 12 work)
  unfolding refuse work_of
  twelve-is = refl

  -- ---- row i, of the symbol at place p

  module _ (p i : ℕ) {f : Found} (look : Looked p t f) (at : f ≡ Some i) where
    row-symbol : row_symbol t i ≡ symbol_at t p
    row-symbol = basic-symbol t i ∙ ap (symbol_at t) (look.own i at)

    module _ {g : Found} (choice : Chooses false (any_pivotable_symbol (basic_of t i).row) (symbol_at t) (symbol_count t) t g) where
      pub pivotable-none : g ≡ None → (outcome_of false (ended 12 pivots past) t ≡ out_of (symbol_at t p).id i) × Goes false (ended 12 pivots past) t
      pivotable-none e = (
        is-refused false (ended 12 pivots past) t refl ∙ twelve-is
            ∙ ap (pivoted_out (symbol_at t p).id work) (sym (choice.is (mark_of past) pivots ∙ ap (on_found (λ k. some (symbol_at t k)) none) e)),
        tt,
      )

      module _ (q : ℕ) (e : g ≡ Some q) where
        chosen : (a : Mark) (v : ℕ) → any_pivotable_symbol (basic_of t i).row (work_of false a v t) ≡ some (symbol_at t q)
        chosen a v = choice.is a v ∙ ap (on_found (λ k. some (symbol_at t k)) none) e

        -- row i leaves and the symbol at place q enters; `all` is what was written then
        module _ (all : Wrote) (u : Sparse) (pivoted : Makes false false (mark_of past) (mark_of all) (pivot (row_symbol t i).id (symbol_at t q)) t u) {c : Ended} (checked : c ≡ checked_of pivots all) where
          check-is : outcome_of false (checked_of pivots all) u ≡ check_finite (pivot (symbol_at t p).id (symbol_at t q) work)
          check-is = checked-is false pivots all u ∙ ap check_finite (pivoted.reads pivots ∙ ap (λ (x : Symbol). pivot x.id (symbol_at t q) work) row-symbol)

          out-is : (check_finite (pivot (symbol_at t p).id (symbol_at t q) work) >>= λ v. going (purge (symbol_at t p).id v)) ≡ out_of (symbol_at t p).id i
          out-is = ap (pivoted_out (symbol_at t p).id work) (sym (chosen (mark_of past) pivots))

          pub pivot-refused : eqb c.number 0 ≡ false → (outcome_of false c u ≡ out_of (symbol_at t p).id i) × Goes false c u
          pivot-refused off =
              let o : outcome_of false c u ≡ check_finite (pivot (symbol_at t p).id (symbol_at t q) work) = rw checked check-is in
              (is-refused false c u off ∙ refused-then false c u _ (λ v. going (purge (symbol_at t p).id v)) off o ∙ out-is, none_then _ (eqb c.number 0) off)

          pub pivot-gone : eqb c.number 0 ≡ true → symbol_at u p ≡ symbol_at t p → (r : Ended) (z : Sparse) → outcome_of false r z ≡ going (purge (symbol_at u p).id (work_of false (mark_of all) pivots u)) → Goes false r z
              → (outcome_of false r z ≡ out_of (symbol_at t p).id i) × Goes false r z
          unfolding checked_of
          pivot-gone on y r z o g =
              let ok : eqb (checked_of pivots all).number 0 ≡ true = rw checked at on in
              (o ∙ ap (λ (x : Symbol). going (purge x.id (work_of false (mark_of all) pivots u))) y ∙ going-then false (checked_of pivots all) u _ (λ v. going (purge (symbol_at t p).id v)) ok check-is ∙ out-is, g)

  -- ---- of the temporary

  module _ (p : ℕ) {f : Found} (look : Looked p t f) (r : Ended) (z : Sparse) where
    abbrev Removes : Type 0
    Removes = (outcome_of false r z ≡ remove_temporary (symbol_at t p) work) × Goes false r z

    removed-is : removal (symbol_at t p).id work (on_found (λ i. some (basic_of t i).row) none f) ≡ remove_temporary (symbol_at t p) work
    removed-is = ap (removal (symbol_at t p).id work) (sym look.row ∙ ap (find_row (symbol_at t p).id) (sym (rows_are false (mark_of past) pivots t))) ∙ removal-is (symbol_at t p) work

    pub not-basic : f ≡ None → outcome_of false r z ≡ going (purge (symbol_at t p).id work) → Goes false r z → Removes
    not-basic e o g = (o ∙ ap (λ (x : Found). removal (symbol_at t p).id work (on_found (λ i. some (basic_of t i).row) none x)) (sym e) ∙ removed-is, g)

    module _ (i : ℕ) (e : f ≡ Some i) {b : Bool} (k : (a : Mark) (v : ℕ) → b ≡ is_empty_row (basic_of t i).row (work_of false a v t)) where
      emptied-is : (x : Bool) → b ≡ x → emptied (symbol_at t p).id work (basic_of t i).row x ≡ remove_temporary (symbol_at t p) work
      emptied-is x y =
          ap (emptied (symbol_at t p).id work (basic_of t i).row) (sym y ∙ k (mark_of past) pivots)
          ∙ ap (λ (x : Found). removal (symbol_at t p).id work (on_found (λ i. some (basic_of t i).row) none x)) (sym e) ∙ removed-is

      pub is-empty : b ≡ true → outcome_of false r z ≡ going (purge (symbol_at t p).id work) → Goes false r z → Removes
      is-empty y o g = (o ∙ emptied-is true y, g)

      pub not-empty : b ≡ false → outcome_of false r z ≡ out_of (symbol_at t p).id i → Goes false r z → Removes
      not-empty y o g = (o ∙ emptied-is false y, g)

-- ---- after the pass over the artificial objective

-- "Its constant not near zero: refuse 12." "The copy goes."
abbrev closing : Symbol → Work → Bool → Outcome Work
closing s w b = elim b [ false ↦ refuse 12 w | true ↦ remove_temporary s (with_artificial none w) ]

abbrev pub closing_of : Symbol → Work → Outcome Work
closing_of s w = closing s w (artificial_constant_near_zero w)

module _ (past : Wrote) (pivots : ℕ) (t : Sparse) (s : Symbol) {x : Float} {b : Bool} (y : x ≡ get_or t.reals (constants_at + (1 + row_count t)) nan) (e : b ≡ near_zero (cutoff_of t) x) where
  abbrev stood : Work
  stood = work_of true (mark_of past) pivots t

  near-is : b ≡ artificial_constant_near_zero stood
  unfolding artificial_constant_near_zero work_of artificial_of basic_of read
  near-is = e ∙ ap (near_zero (cutoff_of t)) y

  twelve-stood : ◌≡◌ {A = Outcome Work} (refused 12 pivots (mark_of past)) (refuse 12 stood)
  unfolding refuse work_of
  twelve-stood = refl

  pub not-near : b ≡ false → (outcome_of false (ended 12 pivots past) t ≡ closing_of s stood) × Goes false (ended 12 pivots past) t
  not-near off = (is-refused false (ended 12 pivots past) t refl ∙ twelve-stood ∙ ap (closing s stood) (sym off ∙ near-is), tt)

  pub near : b ≡ true → (p : ℕ) (u : Sparse) → Makes true false (mark_of past) (mark_of past) (with_artificial none) t u → symbol_at u p ≡ s
      → (r : Ended) (z : Sparse) → outcome_of false r z ≡ remove_temporary (symbol_at u p) (work_of false (mark_of past) pivots u) → Goes false r z
      → (outcome_of false r z ≡ closing_of s stood) × Goes false r z
  near on p u m k r z o g =
      (o ∙ ap (λ (q : Symbol). remove_temporary q (work_of false (mark_of past) pivots u)) k ∙ ap (remove_temporary s) (m.reads pivots) ∙ ap (closing s stood) (sym on ∙ near-is), g)
