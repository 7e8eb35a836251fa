use Prim.Native.Nat.{ℕ}
use mathlib.Core.Path.{◌≡◌, refl, ◌∙◌}
use mathlib.Core.Bool.{Bool}
use mathlib.Core.List.{List}
use native.Mathlib.Omega.{arith}
use Rattle.sparse.specs.Places.{edit_variables_at, terms_at}
use Rattle.sparse_test.specs.Tested.{count_uses, no_uses, all_uses, uses_are, uses_fit}
use Rattle.sparse_test.specs.Tally.{none-most, uses-most}
use Rattle.sparse_test.proofs.uses.uses_fit.Goals as goal

glue : (w b : List ℕ) (v e m : ℕ) {l₀ l₁ l₂ : List ℕ} {x : Bool} → l₀ ≡ no_uses → l₁ ≡ count_uses b v terms_at m l₀ → l₂ ≡ count_uses b v edit_variables_at e l₁ → x ≡ uses_are w l₂ v → x ≡ uses_fit w b v e m
unfolding uses_fit all_uses
glue w b v e m p q r s = s ∙ rw (r, q, p) refl

pub count_uses-requires : goal.count_uses-requires
count_uses-requires c = record { v_le_most_variables = omega arith; n_le_most_terms = omega arith; n_bound = omega arith; indexed = c.requires.indexed; most = none-most c.no_uses-counts.ensures }

pub count_uses-requires-2 : goal.count_uses-requires-2
count_uses-requires-2 c = record { v_le_most_variables = omega arith; n_le_most_terms = omega arith; n_bound = omega arith; indexed = c.requires.indexed; most = uses-most _ _ _ _ c.no_uses-counts.ensures c.count_uses.ensures (omega arith) }

pub returns : goal.returns
returns c = glue _ _ _ _ _ c.no_uses-counts.ensures c.count_uses.ensures c.count_uses-2.ensures c.uses_are.ensures
