use Prim.Native.Nat.{ℕ, ◌+◌}
use mathlib.Core.Path.{◌≡◌, refl, ◌∙◌}
use mathlib.Core.List.{List}
use Rattle.sparse.specs.Places.{changed_at, kinds_at, row_places_at, variable_places_at}
use Rattle.lending.specs.sparse_copy.Over.{put_part, names_over}
use Rattle.lending.proofs.sparse_copy.put.put_names.Goals as goal

glue : (w : List ℕ) (k r v : ℕ) (to : List ℕ) {x₁ x₂ x₃ x₄ : List ℕ} → x₁ ≡ put_part 0 w (kinds_at + 1) k to → x₂ ≡ put_part 0 w (row_places_at + 1) r x₁ → x₃ ≡ put_part 0 w variable_places_at v x₂ → x₄ ≡ put_part 0 w changed_at v x₃ → x₄ ≡ names_over w k r v to
unfolding names_over
glue w k r v to e₁ e₂ e₃ e₄ = e₄ ∙ rw (e₃, e₂, e₁) refl

pub returns : goal.returns
returns c = glue _ _ _ _ _ (c.part.ensures 0) (c.part-2.ensures 0) (c.part-3.ensures 0) (c.part-4.ensures 0)
