-- The walks of an optimise pass, by ascending column: the first cell below 0, and the smallest ratio x / a, the earlier column on a tie.
use Rattle.std.specs.Prelude.{◌≡◌, ℕ, ◌≤◌, ◌<◌, Bool, ◌&&◌, ◌*ℤ◌}
use mathlib.Core.List.{List, [], ◌∷◌}
use Rattle.std.proofs.Math.Bool.{true, false, cond}
use Rattle.std.specs.Int.Signed.{lt_z}
use Rattle.laws.specs.Z.{◌≼◌, ◌≺◌}
use Rattle.simplex.specs.Ord.{0ℤ}
use Rattle.simplex.specs.Lin.{Vec}
use Rattle.simplex.specs.Choose.{All}

-- ---- the walks; a column is a number, the list ascends
pub data Found : Type 0 where
  nothing : Found
  found : ℕ → Found

-- the first that passes
unfoldable pub first : (ℕ → Bool) → List ℕ → Found
first c [] = nothing
first c (y ∷ ys) = cond (c y) (found y) (first c ys)

-- every one below y is before it
unfoldable pub Asc : List ℕ → Type 0
Asc [] = Unit
Asc (y ∷ ys) = All (λ z. y < z) ys × Asc ys

module _ (cand : ℕ → Bool) (x a : Vec) (above : (j : ℕ) → cand j ≡ true → 0ℤ ≺ a j) where
  -- the best so far is l
  unfoldable pub walk : ℕ → List ℕ → ℕ
  walk l [] = l
  walk l (y ∷ ys) = cond (cand y && lt_z (x y *ℤ a l) (x l *ℤ a y)) (walk y ys) (walk l ys)

  -- l has the smaller ratio, or the same and comes no later
  pub record Beats (l j : ℕ) : Type 0 where
    pub least : x l *ℤ a j ≼ x j *ℤ a l
    pub ties : x l *ℤ a j ≡ x j *ℤ a l → l ≤ j

  unfoldable pub smallest : List ℕ → Found
  smallest [] = nothing
  smallest (y ∷ ys) = cond (cand y) (found (walk y ys)) (smallest ys)

  pub data Smallest (ids : List ℕ) : Found → Type 0 where
    nobody : All (λ j. cand j ≡ false) ids → Smallest ids nothing
    winner : (r : ℕ) → cand r ≡ true → All (λ j. cand j ≡ true → Beats r j) ids → Smallest ids (found r)

-- ---- the first
pub data First (c : ℕ → Bool) (ids : List ℕ) : Found → Type 0 where
  nobody : All (λ j. c j ≡ false) ids → First c ids nothing
  winner : (r : ℕ) → c r ≡ true → All (λ j. j < r → c j ≡ false) ids → First c ids (found r)
