use Prim.Native.Nat.{ℕ, ◌+◌}
use mathlib.Core.Path.{◌≡◌, refl}
use mathlib.Core.Bool.{Bool, ◌&&◌}
use mathlib.Core.List.{List}
use lib.Ieee.{Float, nan}
use lib.ListN.{get_or}
use Rattle.steps.specs.Number.{cutoff_fits}
use Rattle.rows.specs.places.Shares.{finite_in}
use Rattle.sparse.specs.Places.{constants_at, objective_at, cutoff_at, constraint_strengths_at, edit_strengths_at, suggestions_at, coefficients_at, constraint_constants_at}
use Rattle.sparse_test.specs.Tested.{olds_fit, reals_fit}
use Rattle.sparse_test.proofs.records.reals_fit.Goals as goal

glue : (f : List Float) (k r v n e m : ℕ) {x₁ x₂ x₃ x₄ x₅ x₆ x₇ x₈ x₉ : Bool} → x₁ ≡ finite_in f (constants_at + 1) r → x₂ ≡ olds_fit f v → x₃ ≡ finite_in f (objective_at + 1) k → x₄ ≡ finite_in f constraint_strengths_at n → x₅ ≡ finite_in f edit_strengths_at e → x₆ ≡ finite_in f suggestions_at e → x₇ ≡ finite_in f coefficients_at m → x₈ ≡ finite_in f constraint_constants_at n → x₉ ≡ cutoff_fits (get_or f cutoff_at nan) → (x₁ && x₂ && x₃ && x₄ && x₅ && x₆ && x₇ && x₈ && x₉) ≡ reals_fit f k r v n e m
unfolding reals_fit
glue f k r v n e m h₁ h₂ h₃ h₄ h₅ h₆ h₇ h₈ h₉ = rw (h₁, h₂, h₃, h₄, h₅, h₆, h₇, h₈, h₉) refl

pub returns : goal.returns
returns c = glue _ _ _ _ _ _ _ c.reals_finite.ensures c.olds_fit.ensures c.reals_finite-2.ensures c.reals_finite-3.ensures c.reals_finite-4.ensures c.reals_finite-5.ensures c.reals_finite-6.ensures c.reals_finite-7.ensures c.cutoff_fits.ensures
