use Prim.Native.Nat.{ℕ}
use mathlib.Core.Path.{◌≡◌, refl, ◌∙◌}
use mathlib.Core.List.{List}
use Rattle.sparse.specs.Places.{constraint_markers_at, constraint_others_at, edit_markers_at, edit_others_at, edit_variables_at, relations_at, term_counts_at, terms_at}
use Rattle.lending.specs.sparse_copy.Over.{put_part, records_over}
use Rattle.lending.proofs.sparse_copy.put.put_records.Goals as goal

glue : (w : List ℕ) (n e m : ℕ) (to : List ℕ) {x₁ x₂ x₃ x₄ x₅ x₆ x₇ x₈ : List ℕ} → x₁ ≡ put_part 0 w constraint_markers_at n to → x₂ ≡ put_part 0 w constraint_others_at n x₁ → x₃ ≡ put_part 0 w term_counts_at n x₂ → x₄ ≡ put_part 0 w edit_variables_at e x₃ → x₅ ≡ put_part 0 w edit_markers_at e x₄ → x₆ ≡ put_part 0 w edit_others_at e x₅ → x₇ ≡ put_part 0 w terms_at m x₆ → x₈ ≡ put_part 0 w relations_at n x₇ → x₈ ≡ records_over w n e m to
unfolding records_over
glue w n e m to e₁ e₂ e₃ e₄ e₅ e₆ e₇ e₈ = e₈ ∙ rw (e₇, e₆, e₅, e₄, e₃, e₂, e₁) refl

pub returns : goal.returns
returns c = glue _ _ _ _ _ (c.part.ensures 0) (c.part-2.ensures 0) (c.part-3.ensures 0) (c.part-4.ensures 0) (c.part-5.ensures 0) (c.part-6.ensures 0) (c.part-7.ensures 0) (c.part-8.ensures 0)
