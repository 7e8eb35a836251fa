-- A suggestion's calls put together read as the steps' suggestion, and leave tables that stand.
-- Assumes nothing.
use Rattle.std.specs.Prelude.{ℕ, ◌-◌, ◌≡◌, true, eqb, Float}
use Rattle.std.proofs.Math.Path.{refl}
use Rattle.std.proofs.Common.{ap, ◌∙◌}
use Rattle.std.proofs.Math.Bool.{false}
use Rattle.std.proofs.Math.Nat.{sub-zero}
use Rattle.steps.specs.Number.{zero64, constant_bound, ◌-₆₄◌, Mark, worse, whole_if}
use Rattle.steps.specs.State.{Tag, Edit}
use Rattle.steps.specs.Work.{Work, Outcome, ◌>>=◌, check_finite, marking}
use Rattle.steps.specs.Optimise.{dual_optimise}
use Rattle.steps.specs.Add.{whole_within}
use Rattle.steps.specs.Edit.{shift_constants, suggest_steps}
use Rattle.rows.specs.declared.number.Wrote.{Wrote}
use Rattle.rows.specs.Marks.{mark_of}
use Rattle.sparse.specs.Sparse.{Sparse}
use Rattle.waist.specs.Working.{work_of}
use Rattle.waist.specs.Standing.{Standing, Makes}
use Rattle.waist.specs.Holding.{standing-worse}
use Rattle.waist.specs.Ending.{Ended, outcome_of, Goes, checked_of, checked-is, refused-then, going-then, is-refused, none_then}

-- an edit with this tag and last suggestion: a suggestion uses no other part of it
abbrev pub edit_by : Tag → Float → Edit
edit_by tag x = record { variable = 0; strength = zero64; tag = tag; suggestion = x }

-- the mark so far, and the suggestion's own: "constants and suggestions within 2^30"
abbrev pub suggested_mark : Float → Mark → Mark
suggested_mark new m = worse m (whole_if (whole_within constant_bound new))

pub suggest-by : (budget : ℕ) (e : Edit) (new : Float) (w : Work) {tag : Tag} {x : Float} → e.tag ≡ tag → e.suggestion ≡ x → suggest_steps budget e new w ≡ suggest_steps budget (edit_by tag x) new w
unfolding suggest_steps
suggest-by budget e new w h k = rw (← h, ← k) refl

-- ---- the calls put together, over variables

pub suggest-start : (t : Sparse) (new : Float) (before given : Wrote) → Standing false (mark_of before) t → mark_of given ≡ suggested_mark new (mark_of before) → Standing false (mark_of given) t
suggest-start t new before given s e = rw e (standing-worse false (mark_of before) (whole_if (whole_within constant_bound new)) t s)

module _ (t u : Sparse) (tag : Tag) (stored new : Float) (before given wrote : Wrote) (marked : mark_of given ≡ suggested_mark new (mark_of before))
    (moved : Makes false false (mark_of given) (mark_of wrote) (shift_constants tag (new -₆₄ stored)) t u) where
  abbrev own : Mark
  own = whole_if (whole_within constant_bound new)

  start-reads : work_of false (mark_of given) 0 t ≡ marking own (work_of false (mark_of before) 0 t)
  unfolding work_of marking
  start-reads = rw marked refl

  shift-reads : work_of false (mark_of wrote) 0 u ≡ shift_constants tag (new -₆₄ stored) (marking own (work_of false (mark_of before) 0 t))
  shift-reads = moved.reads 0 ∙ ap (shift_constants tag (new -₆₄ stored)) start-reads

  module _ (budget : ℕ) {checked : Ended} (is : checked ≡ checked_of 0 wrote) where
    abbrev steps : Outcome Work
    steps = suggest_steps budget (edit_by tag stored) new (work_of false (mark_of before) 0 t)

    abbrev first : Outcome Work
    first = check_finite (shift_constants tag (new -₆₄ stored) (marking own (work_of false (mark_of before) 0 t)))

    checked-reads : outcome_of false checked u ≡ first
    checked-reads = ap (λ (r : Ended). outcome_of false r u) is ∙ checked-is false 0 wrote u ∙ ap check_finite shift-reads

    steps-are : (first >>= dual_optimise budget) ≡ steps
    unfolding suggest_steps
    steps-are = refl

    pub suggest-ends : eqb checked.number 0 ≡ false → (outcome_of false checked u ≡ steps) × Goes false checked u
    suggest-ends e = (is-refused false checked u e ∙ refused-then false checked u first (dual_optimise budget) e checked-reads ∙ steps-are, none_then (Standing false (mark_of checked.wrote) u) (eqb checked.number 0) e)

    pub suggest-stands : Standing false (mark_of checked.wrote) u
    unfolding checked_of
    suggest-stands = rw is moved.stands

    -- the dual pass leaves the tables `z`
    pub suggest-goes : (r : Ended) (z : Sparse) → eqb checked.number 0 ≡ true → outcome_of false r z ≡ dual_optimise (budget - checked.pivots) (work_of false (mark_of checked.wrote) checked.pivots u) → outcome_of false r z ≡ steps
    unfolding checked_of
    suggest-goes r z e q =
        let on : dual_optimise budget (work_of false (mark_of checked.wrote) checked.pivots u) ≡ (first >>= dual_optimise budget) = going-then false checked u first (dual_optimise budget) e checked-reads in
        let none : budget - checked.pivots ≡ budget = rw is (sub-zero budget) in
        (rw none at q) ∙ on ∙ steps-are
