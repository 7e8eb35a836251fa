use Prim.Native.Nat.{ℕ, ◌+◌}
use mathlib.Core.Path.{◌≡◌, refl, ◌∙◌}
use mathlib.Core.List.{List}
use Rattle.sparse.specs.Places.{constraint_numbers_at, constraint_groups_at, gone_numbers_at, ids_at, next_id_at, variable_numbers_at, variable_uses_at}
use Rattle.sparse.specs.Copy.{heading_end}
use Rattle.lending.specs.sparse_copy.Over.{put_part, words_over}
use Rattle.lending.proofs.sparse_copy.put.put_words.Goals as goal

glue : (w : List ℕ) (k v n g : ℕ) (to : List ℕ) {x₁ x₂ x₃ x₄ x₅ x₆ x₇ : List ℕ} → x₁ ≡ put_part 0 w next_id_at heading_end to → x₂ ≡ put_part 0 w (ids_at + 1) k x₁ → x₃ ≡ put_part 0 w variable_numbers_at v x₂ → x₄ ≡ put_part 0 w variable_uses_at v x₃ → x₅ ≡ put_part 0 w constraint_numbers_at n x₄ → x₆ ≡ put_part 0 w constraint_groups_at n x₅ → x₇ ≡ put_part 0 w gone_numbers_at g x₆ → x₇ ≡ words_over w k v n g to
unfolding words_over
glue w k v n g to e₁ e₂ e₃ e₄ e₅ e₆ e₇ = e₇ ∙ rw (e₆, e₅, e₄, e₃, e₂, e₁) refl

pub returns : goal.returns
returns c = glue _ _ _ _ _ _ (c.part.ensures 0) (c.part-2.ensures 0) (c.part-3.ensures 0) (c.part-4.ensures 0) (c.part-5.ensures 0) (c.part-6.ensures 0) (c.part-7.ensures 0)
