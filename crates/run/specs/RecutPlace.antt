-- Add's steps 4 to 7 with another cutoff: the same, while the mark stays whole. Assumes nothing.
use Rattle.std.specs.Prelude.{◌≡◌, List, ℕ, ◌-◌}
use Rattle.std.proofs.Math.Path.{refl, sym, ap, subst}
use Rattle.std.proofs.Common.{◌∙◌}
use Rattle.std.proofs.Math.Option.{Option, none, some}
use Rattle.std.proofs.Math.Bool.{Bool, true, false}
use Rattle.std.specs.Float.Ieee.{Float}
use Rattle.laws.specs.exact.Unbroken.{Unbroken}
use Rattle.steps.specs.Number.{near_zero, cutoff_fits, Mark, all_whole, not_whole, not_finite, whole_if}
use Rattle.steps.specs.Symbol.{Slack, Symbol}
use Rattle.steps.specs.Row.{Row, Written, solve_for_symbol, append_cell}
use Rattle.steps.specs.State.{Term, Relation, strength_of, Tag}
use Rattle.steps.specs.Work.{Work, Outcome, refused, going, ◌>>=◌, refuse, check_finite, with_tableau, with_artificial, marking, with_rows, find_row, new_symbol, append_symbol, purge}
use Rattle.steps.specs.Substitute.{enter_basis, pivot}
use Rattle.steps.specs.CreateRow.{Created, append_to, negative_tag, choose_subject, all_dummies}
use Rattle.steps.specs.Optimise.{the_objective, the_artificial, optimise}
use Rattle.steps.specs.Artificial.{any_pivotable_symbol, is_empty_row, stand_temporary, remove_temporary, artificial_constant_near_zero, add_with_artificial_variable}
use Rattle.steps.specs.Add.{whole_inputs, add_with_subject, add_created, Added, add_steps}
use Rattle.steps.proofs.After.{enter-after}
use Rattle.simplex.specs.bridge.Runs.{mark_of}
use Rattle.simplex.proofs.bridge.Runs.{optimise-mark}
use Rattle.run.specs.AddMarks.{marked, finite-mark, temporary-mark, none-mark, created_of, placed_and_rested, added_by, mark_added, WholeSteps, whole-steps, steps-are, afterwards, goes_on}
use Rattle.run.specs.RecutRows.{RowU, append-u, solve-u, near_same}
use Rattle.run.specs.Recut.{recut, ArtU, Plain, Same, keep-u, plain-enter, enter-same, check-same, refuse-same, bind-same, pivoted-same, optimise-same}
use Rattle.run.specs.RecutAdd.{recut_c, PlainC, TermsU, plain-append, plain-mark, plain-purge, create_row-twin}

abbrev pub recut_a : Float → Outcome Added → Outcome Added
recut_a z (refused n p m) = refused n p m
recut_a z (going a) = going (record { work = recut z a.work; tag = a.tag })

abbrev pub PlainAdded : Outcome Added → Type 0
PlainAdded (refused n p m) = Unit
PlainAdded (going a) = Plain a.work

module _ (z : Float) (fz : cutoff_fits z ≡ true) where
  -- ---- step 5

  over : (k : Mark) (w : Work) → marking k (recut z w) ≡ recut z (marking k w)
  unfolding marking
  over k w = refl

  subject-same : (s : Symbol) (c : Created) → PlainC c → mark_of (add_with_subject s c) ≡ all_whole → Same z (add_with_subject s c) (add_with_subject s (recut_c z c))
  unfolding add_with_subject
  subject-same s c p m =
      let solved : Written = solve_for_symbol s.id c.work.tableau.symbols c.row in
      let v : Work = marking solved.mark c.work in
      let whole : v.mark ≡ all_whole = (enter-after s solved.row v).mark (finite-mark (enter_basis s solved.row v) m) in
      let h : RowU solved.row = solve-u s.id c.work.tableau.symbols c.row p.1 (marked solved.mark c.work whole).1 in
      let q : Plain v = plain-mark solved.mark c.work p.0 in
      subst (λ (x : Work). Same z (check_finite (enter_basis s solved.row v)) (check_finite x)) (sym (again s solved.row solved.mark c q h)) (check-same z fz (enter_basis s solved.row v) (plain-enter s solved.row v q h))
    where
      again : (s : Symbol) (r : Row) (k : Mark) (c : Created) → Plain (marking k c.work) → RowU r → enter_basis s r (marking k (recut z c.work)) ≡ recut z (enter_basis s r (marking k c.work))
      again s r k c q h = ap (enter_basis s r) (over k c.work) ∙ enter-same z fz s r (marking k c.work) q h

  -- ---- step 6

  purged-same : (s : ℕ) (v : Work) → Plain v → Same z (going (purge s v)) (going (purge s (recut z v)))
  purged-same s v p = (unfold purge with_tableau in refl, plain-purge s v p)

  purged-mark : (s : ℕ) (v : Work) → mark_of (going (purge s v)) ≡ all_whole → v.mark ≡ all_whole
  unfolding mark_of purge with_tableau
  purged-mark s v m = m

  temporary-same : (t : Symbol) (w : Work) → Plain w → mark_of (remove_temporary t w) ≡ all_whole → Same z (remove_temporary t w) (remove_temporary t (recut z w))
  unfolding remove_temporary is_empty_row any_pivotable_symbol
  temporary-same t w p = by_row (find_row t.id w.tableau.rows)
    where
      at_symbol : Option Symbol → Work → Outcome Work
      at_symbol o w = elim o as (λ _. Outcome Work) [ none ↦ refuse 12 w | some e ↦ check_finite (pivot t.id e w) >>= λ v. going (purge t.id v) ]

      at-empty : Row → Bool → Work → Outcome Work
      at-empty r b w = elim b as (λ _. Outcome Work) [ true ↦ going (purge t.id w) | false ↦ at_symbol (any_pivotable_symbol r w) w ]

      at_row : Option Row → Work → Outcome Work
      at_row o w = elim o as (λ _. Outcome Work) [ none ↦ going (purge t.id w) | some r ↦ at-empty r (is_empty_row r w) w ]

      by-symbol : (o : Option Symbol) → mark_of (at_symbol o w) ≡ all_whole → Same z (at_symbol o w) (at_symbol o (recut z w))
      by-symbol none m = refuse-same z fz 12 w
      by-symbol (some e) m = bind-same z fz _ _ (λ v. going (purge t.id v)) (purged-mark t.id) (pivoted-same z fz t.id e w p) (λ v q _. purged-same t.id v q) m

      by-empty : (r : Row) (b : Bool) → mark_of (at-empty r b w) ≡ all_whole → Same z (at-empty r b w) (at-empty r b (recut z w))
      by-empty r true m = purged-same t.id w p
      by-empty r false m = by-symbol (any_pivotable_symbol r w) m

      by_row : (o : Option Row) → mark_of (at_row o w) ≡ all_whole → Same z (at_row o w) (at_row o (recut z w))
      by_row none m = purged-same t.id w p
      by_row (some r) m = by-empty r (is_empty_row r w) m

  near-art : (w : Work) → Plain w → artificial_constant_near_zero (recut z w) ≡ artificial_constant_near_zero w
  unfolding artificial_constant_near_zero
  near-art w p = go w.artificial p.artificial
    where
      at : Float → Option Row → Bool
      at c o = elim o as (λ _. Bool) [ none ↦ false | some r ↦ near_zero c r.constant ]

      go : (o : Option Row) → ArtU o → at z o ≡ at w.tableau.cutoff o
      go none a = refl
      go (some r) a = near_same w.tableau.cutoff z p.fits fz r.constant a.0

  -- what follows the pass on the artificial objective
  closing : Symbol → Bool → Work → Outcome Work
  closing t b w = elim b as (λ _. Outcome Work) [ false ↦ refuse 12 w | true ↦ remove_temporary t (with_artificial none w) ]

  closing-mark : (t : Symbol) (b : Bool) (w : Work) → mark_of (closing t b w) ≡ all_whole → w.mark ≡ all_whole
  unfolding closing
  closing-mark t false w m = unfold refuse mark_of in m
  closing-mark t true w m = sym (none-mark w) ∙ temporary-mark t (with_artificial none w) m

  closing_same : (t : Symbol) (w : Work) → Plain w → mark_of (closing t (artificial_constant_near_zero w) w) ≡ all_whole
      → Same z (closing t (artificial_constant_near_zero w) w) (closing t (artificial_constant_near_zero (recut z w)) (recut z w))
  unfolding closing
  closing_same t w p m = subst (λ (b : Bool). Same z (closing t (artificial_constant_near_zero w) w) (closing t b (recut z w))) (sym (near-art w p)) (go (artificial_constant_near_zero w) m)
    where
      go : (b : Bool) → mark_of (closing t b w) ≡ all_whole → Same z (closing t b w) (closing t b (recut z w))
      go false m = refuse-same z fz 12 w
      go true m = unfold with_artificial in temporary-same t (with_artificial none w) (record { rows = p.rows; objective = p.objective; artificial = tt; fits = p.fits }) (unfold with_artificial in m)

  plain-standing : (t : Symbol) (c : Created) → PlainC c → Plain (stand_temporary t (record { work = c.work; row = c.row }))
  unfolding stand_temporary append_to with_artificial with_rows with_tableau append_symbol append_cell
  plain-standing t c p =
      let g : Plain (append_symbol t c.work) = plain-append t c.work p.0 in
      let r : RowU (append_cell c.row) = (p.1.0, append-u c.row.cells p.1.1) in
      record { rows = keep-u (record { symbol = t; row = append_cell c.row }) _ r g.rows; objective = g.objective; artificial = r; fits = g.fits }

  artificial-same : (budget : ℕ) (c : Created) → PlainC c → mark_of (add_with_artificial_variable budget c) ≡ all_whole → Same z (add_with_artificial_variable budget c) (add_with_artificial_variable budget (recut_c z c))
  unfolding add_with_artificial_variable closing new_symbol
  artificial-same budget c p m =
      let t : Symbol = new_symbol Slack c.work in
      let v : Work = stand_temporary t (record { work = c.work; row = c.row }) in
      subst (λ (x : Work). Same z (optimise (budget - v.pivots) the_artificial v >>= λ w. closing t (artificial_constant_near_zero w) w) (optimise (budget - x.pivots) the_artificial x >>= λ w. closing t (artificial_constant_near_zero w) w)) (sym (again t))
      (bind-same z fz _ _ (λ w. closing t (artificial_constant_near_zero w) w) (λ w. closing-mark t (artificial_constant_near_zero w) w) (optimise-same z fz (budget - v.pivots) the_artificial v (plain-standing t c p)) (closing_same t) m)
    where
      again : (t : Symbol) → stand_temporary t (record { work = recut z c.work; row = c.row }) ≡ recut z (stand_temporary t (record { work = c.work; row = c.row }))
      again t = unfold stand_temporary append_to with_artificial with_rows with_tableau append_symbol append_cell in refl

  -- ---- steps 4 to 6

  created-same : (budget : ℕ) (c : Created) → PlainC c → mark_of (add_created budget c) ≡ all_whole → Same z (add_created budget c) (add_created budget (recut_c z c))
  unfolding add_created choose_subject negative_tag all_dummies
  created-same budget c p = by-subject (choose_subject c)
    where
      at_zero : Bool → Created → Outcome Work
      at_zero b c = elim b as (λ _. Outcome Work) [ false ↦ refuse 12 c.work | true ↦ add_with_subject c.tag.marker c ]

      at-dummies : Bool → Created → Outcome Work
      at-dummies b c = elim b as (λ _. Outcome Work) [ false ↦ add_with_artificial_variable budget c | true ↦ at_zero (near_zero c.work.tableau.cutoff c.row.constant) c ]

      at-subject : Option Symbol → Created → Outcome Work
      at-subject o c = elim o as (λ _. Outcome Work) [ some s ↦ add_with_subject s c | none ↦ at-dummies (all_dummies c) c ]

      by_zero : (b : Bool) → mark_of (at_zero b c) ≡ all_whole → Same z (at_zero b c) (at_zero b (recut_c z c))
      by_zero false m = refuse-same z fz 12 c.work
      by_zero true m = subject-same c.tag.marker c p m

      by-dummies : (b : Bool) → mark_of (at-dummies b c) ≡ all_whole → Same z (at-dummies b c) (at-dummies b (recut_c z c))
      by-dummies false m = artificial-same budget c p m
      by-dummies true m =
          subst (λ (b : Bool). Same z (at_zero (near_zero c.work.tableau.cutoff c.row.constant) c) (at_zero b (recut_c z c))) (sym (near_same c.work.tableau.cutoff z p.0.fits fz c.row.constant p.1.0))
          (by_zero (near_zero c.work.tableau.cutoff c.row.constant) m)

      by-subject : (o : Option Symbol) → mark_of (at-subject o c) ≡ all_whole → Same z (at-subject o c) (at-subject o (recut_c z c))
      by-subject (some s) m = subject-same s c p m
      by-subject none m = by-dummies (all_dummies c) m

  placed_same : (budget : ℕ) (c : Created) → PlainC c → mark_of (placed_and_rested budget c) ≡ all_whole → Same z (placed_and_rested budget c) (placed_and_rested budget (recut_c z c))
  unfolding placed_and_rested
  placed_same budget c p m = bind-same z fz _ _ (λ v. optimise (budget - v.pivots) the_objective v) (λ v. optimise-mark (budget - v.pivots) the_objective v) (created-same budget c p) (λ v q. optimise-same z fz (budget - v.pivots) the_objective v q) m

  -- ---- all seven

  goes-whole : (x : Work) → x.mark ≡ all_whole → check_finite x ≡ going x
  unfolding check_finite
  goes-whole x e = ap (λ (m : Mark). elim m as (λ _. Outcome Work) [ all_whole ↦ going x | not_whole ↦ going x | not_finite ↦ refuse 13 x ]) e

  added-same : (t : Tag) (o q : Outcome Work) → Same z o q → (added_by t q ≡ recut_a z (added_by t o)) × PlainAdded (added_by t o)
  unfolding added_by ◌>>=◌
  added-same t (refused n p m) q s = (rw s.0 refl, tt)
  added-same t (going v) q s = (rw s.0 refl, s.1)

  pub add_steps-same : (budget : ℕ) (ts : List Term) (k : Float) (r : Relation) → TermsU ts → Unbroken k → Unbroken (strength_of r) → (w : Work) → Plain w → mark_added (add_steps budget ts k r w) ≡ all_whole
      → (add_steps budget ts k r (recut z w) ≡ recut_a z (add_steps budget ts k r w)) × PlainAdded (add_steps budget ts k r w)
  add_steps-same budget ts k r ht hk hs w p m =
      let S : WholeSteps budget ts k r w = whole-steps budget ts k r w m in
      let c : Created = created_of ts k r w in
      let twin = made in
      let A = added-same c.tag (placed_and_rested budget c) (placed_and_rested budget (recut_c z c)) (placed_same budget c twin.1 S.last) in (
        steps-are budget ts k r (recut z w)
            ∙ ap (λ (d : Created). afterwards budget d (check_finite d.work)) twin.0
            ∙ ap (afterwards budget (recut_c z c)) (goes-whole (recut z c.work) S.created)
            ∙ goes_on budget (recut_c z c) ∙ A.0 ∙ ap (recut_a z) (sym S.steps),
        subst PlainAdded (sym S.steps) A.1,
      )
    where
      made : (created_of ts k r (recut z w) ≡ recut_c z (created_of ts k r w)) × PlainC (created_of ts k r w)
      made = unfold created_of marking in create_row-twin z fz ts k r ht hk hs (marking (whole_if (whole_inputs ts k r)) w) (plain-mark (whole_if (whole_inputs ts k r)) w p)
