use Prim.Native.Nat.{ℕ, ◌+◌}
use mathlib.Core.Path.{◌≡◌, refl, ◌∙◌}
use mathlib.Core.List.{List}
use native.Mathlib.Omega.{arith}
use lib.Ieee.{Float, nan}
use Rattle.sparse.specs.Places.{coefficients_at, constants_at, constraint_constants_at, constraint_strengths_at, cutoff_at, edit_strengths_at, objective_at, old_values_at, suggestions_at}
use Rattle.lending.specs.sparse_copy.Over.{put_part, reals_over}
use Rattle.lending.proofs.sparse_copy.put.put_reals.Goals as goal

glue : (w : List Float) (k r v n e m : ℕ) (to : List Float) {x₁ x₂ x₃ x₄ x₅ x₆ x₇ x₈ x₉ : List Float} → x₁ ≡ put_part nan w (constants_at + 1) r to → x₂ ≡ put_part nan w old_values_at v x₁ → x₃ ≡ put_part nan w (objective_at + 1) k x₂ → x₄ ≡ put_part nan w cutoff_at 1 x₃ → x₅ ≡ put_part nan w constraint_strengths_at n x₄ → x₆ ≡ put_part nan w edit_strengths_at e x₅ → x₇ ≡ put_part nan w suggestions_at e x₆ → x₈ ≡ put_part nan w coefficients_at m x₇ → x₉ ≡ put_part nan w constraint_constants_at n x₈ → x₉ ≡ reals_over w k r v n e m to
unfolding reals_over
glue w k r v n e m to e₁ e₂ e₃ e₄ e₅ e₆ e₇ e₈ e₉ = e₉ ∙ rw (e₈, e₇, e₆, e₅, e₄, e₃, e₂, e₁) refl

pub part-requires-8 : goal.part-requires-8
part-requires-8 c = omega (arith, c.requires.m_le_most_terms)

pub part-requires-9 : goal.part-requires-9
part-requires-9 c = omega (arith, c.requires.c_le_most_constraints)

pub returns : goal.returns
returns c = glue _ _ _ _ _ _ _ _ (c.part.ensures nan) (c.part-2.ensures nan) (c.part-3.ensures nan) (c.part-4.ensures nan) (c.part-5.ensures nan) (c.part-6.ensures nan) (c.part-7.ensures nan) (c.part-8.ensures nan) (c.part-9.ensures nan)
