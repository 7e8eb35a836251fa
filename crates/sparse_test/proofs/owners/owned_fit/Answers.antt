use Prim.Native.Nat.{ℕ, ◌+◌}
use mathlib.Core.Path.{◌≡◌, refl, ◌∙◌}
use mathlib.Core.Bool.{Bool, true, ◌&&◌}
use mathlib.Core.List.{List}
use lib.Dec.{eqb}
use lib.Ieee.{Float}
use lib.ListN.{get_or}
use Rattle.laws.specs.Lists.{all_in}
use Rattle.rows.specs.places.Shares.{shares}
use Rattle.sparse.specs.Places.{changed_at}
use Rattle.sparse_test.specs.Stretch.{most_in}
use Rattle.sparse_test.specs.Tested.{codes, claim_variables, claim_constraints, claim_edits, constraint_fits, edit_fits, claimed, owned_fit}
use Rattle.sparse_test.proofs.owners.owned_fit.Goals as goal

module _ (b : List ℕ) (r : List Float) (k v n e : ℕ) where
  glue : {l₀ l₁ l₂ l₃ : List ℕ} {x₁ x₂ x₃ x₄ : Bool}
      → l₀ ≡ codes b k
      → (l₁ ≡ (claim_variables b v (shares l₀ true)).left) × (x₁ ≡ ((claim_variables b v (shares l₀ true)).ok && most_in b changed_at v 1))
      → (l₂ ≡ (claim_constraints b n (shares l₁ true)).left) × (x₂ ≡ ((claim_constraints b n (shares l₁ true)).ok && constraint_fits b r n))
      → (l₃ ≡ (claim_edits b e (shares l₂ true)).left) × (x₃ ≡ ((claim_edits b e (shares l₂ true)).ok && edit_fits b r e))
      → x₄ ≡ all_in (λ i. eqb (get_or l₃ (1 + i) 0) 0) 0 k
      → (l₃ ≡ claimed b k v n e) × ((x₁ && x₂ && x₃ && x₄) ≡ owned_fit b r k v n e)
  unfolding claimed owned_fit
  glue p q₁ q₂ q₃ q₄ = (q₃.0 ∙ rw (q₂.0, q₁.0, p) refl, rw (q₁.1, q₂.1, q₃.1, q₄, q₃.0, q₂.0, q₁.0, p) refl)

pub returns : goal.returns
returns c = let all = glue _ _ _ _ _ _ c.requires.table_value (c.claim_variables-variables.ensures.table_after, c.claim_variables-variables.ensures.value) (c.claim_constraints-constraints.ensures.table_after, c.claim_constraints-constraints.ensures.value) (c.claim_edits-edits.ensures.table_after, c.claim_edits-edits.ensures.value) c.all_claimed.ensures in record { table_after = all.0; value = all.1 }
