-- What follows once the row is created: it is added, and the objective is optimised.
-- Assumes nothing.
use Rattle.std.specs.Prelude.{ℕ, ◌-◌, ◌≡◌, true, List, eqb, Float}
use Rattle.std.proofs.Math.Path.{ap}
use Rattle.std.proofs.Common.{◌∙◌}
use Rattle.std.proofs.Math.Bool.{false}
use Rattle.steps.specs.Work.{Work, Outcome, ◌>>=◌, check_finite}
use Rattle.steps.specs.CreateRow.{Created}
use Rattle.steps.specs.Optimise.{optimise, the_objective}
use Rattle.steps.specs.Add.{add_created}
use Rattle.rows.specs.declared.number.Wrote.{Wrote}
use Rattle.rows.specs.Marks.{mark_of}
use Rattle.sparse.specs.Sparse.{Sparse}
use Rattle.waist.specs.Working.{work_of}
use Rattle.waist.specs.Choosing.{goal_of}
use Rattle.waist.specs.Ending.{Ended, outcome_of, Goes, checked_of, checked-is, is-refused, refused-then, going-then, none_then}
use Rattle.addition.specs.Adding.{created_by}

abbrev pub added_row : ℕ → Created → Outcome Work
added_row budget c = check_finite c.work >>= (λ _. add_created budget c) >>= (λ v. optimise (budget - v.pivots) the_objective v)

module _ (past : Wrote) (marker other : ℕ) (t : Sparse) (row : List Float) (budget : ℕ) {c : Ended} (checked : c ≡ checked_of 0 past) where
  abbrev made : Created
  made = created_by (mark_of past) marker other t row

  check-is : outcome_of false c t ≡ check_finite made.work
  check-is = rw checked (checked-is false 0 past t)

  pub row-refused : eqb c.number 0 ≡ false → (outcome_of false c t ≡ added_row budget made) × Goes false c t
  unfolding ◌>>=◌
  row-refused off =
      (is-refused false c t off ∙ ap (λ (o : Outcome Work). o >>= (λ v. optimise (budget - v.pivots) the_objective v)) (refused-then false c t _ (λ _. add_created budget made) off check-is), none_then _ (eqb c.number 0) off)

  module _ (on : eqb c.number 0 ≡ true) (x : Ended) (z : Sparse) (o : outcome_of false x z ≡ add_created budget made) where
    added_is : outcome_of false x z ≡ (check_finite made.work >>= (λ _. add_created budget made))
    added_is = o ∙ going-then false c t _ (λ _. add_created budget made) on check-is

    pub added-refused : eqb x.number 0 ≡ false → (outcome_of false x z ≡ added_row budget made) × Goes false x z
    added-refused off = (is-refused false x z off ∙ refused-then false x z _ (λ v. optimise (budget - v.pivots) the_objective v) off added_is, none_then _ (eqb x.number 0) off)

    pub added-passed : eqb x.number 0 ≡ true → (r : Ended) (y : Sparse) → outcome_of false r y ≡ optimise (budget - x.pivots) (goal_of false) (work_of false (mark_of x.wrote) x.pivots z)
        → outcome_of false r y ≡ added_row budget made
    unfolding work_of
    added-passed done r y q = q ∙ going-then false x z _ (λ v. optimise (budget - v.pivots) the_objective v) done added_is
