-- One element less in a stretch of a table: what stood after its place comes one down.
-- Assumes nothing.
use Rattle.std.specs.Prelude.{ℕ, suc, ◌+◌, ◌≤◌, ◌<◌, ◌≡◌, Bool, cond, List, length, get_or}
use Rattle.std.proofs.Math.Path.{refl}
use Rattle.std.proofs.Math.Bool.{true, false}
use Rattle.std.proofs.Common.{arith, ltb-true, ltb-false}
use Rattle.std.proofs.Math.Dec.{ltb}
use Rattle.rows.specs.moves.Close.{closed}
use Rattle.rows.specs.moves.Moved.{closed-before, closed-inside}

-- where the j-th that is left stood, once the one at z went
unfoldable pub past : ℕ → ℕ → ℕ
past z j = cond (ltb j z) j (suc j)

module _ (z : ℕ) where
  -- by whether it stood before the one that went
  pub past_by : (P : ℕ → Type 0) (j : ℕ) → (j < z → P j) → (z ≤ j → P (suc j)) → P (past z j)
  unfolding past
  past_by P j f g = go (ltb j z) refl
    where
      go : (b : Bool) → ltb j z ≡ b → P (cond b j (suc j))
      go true e = f (ltb-true j z e)
      go false e = g (ltb-false j z e)

  pub past-before : (j : ℕ) → j < z → past z j ≡ j
  past-before j h = past_by (λ x. x ≡ j) j (λ _. refl) (λ l. absurd (omega (arith, l, h)))

  pub past_after : (j : ℕ) → z ≤ j → past z j ≡ suc j
  past_after j h = past_by (λ x. x ≡ suc j) j (λ l. absurd (omega (arith, l, h))) (λ _. refl)

  pub past-under : (j e : ℕ) → j < e → past z j < suc e
  past-under j e h = past_by (λ x. x < suc e) j (λ _. omega (arith, h)) (λ _. omega (arith, h))

  pub past_up : (i j : ℕ) → i < j → past z i < past z j
  past_up i j h = past_by (λ x. x < past z j) i (λ a. past_by (λ y. i < y) j (λ _. h) (λ _. omega (arith, h))) (λ a. past_by (λ y. suc i < y) j (λ b. absurd (omega (arith, a, b, h))) (λ _. omega (arith, h)))

pub closed-past : {A : Type 0} (l : List A) (b e z j : ℕ) (d : A) → z ≤ e → b + e < length l → j < e → get_or (closed d (b + z) (b + e) l) (b + j) d ≡ get_or l (b + past z j) d
closed-past l b e z j d low high h =
    past_by z (λ x. get_or (closed d (b + z) (b + e) l) (b + j) d ≡ get_or l (b + x) d) j
    (λ a. closed-before d (b + z) (b + e) l (omega (arith, low)) high d (b + j) (omega (arith, a)))
    (λ a.
    let q : suc (b + j) ≡ b + suc j = omega arith in
    rw q at (closed-inside d (b + z) (b + e) l (omega (arith, low)) high d (b + j) (omega (arith, a)) (omega (arith, h))))
