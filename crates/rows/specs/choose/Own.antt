-- The first place that passes a test, where those before it do not.
-- Assumes nothing.
use Rattle.std.specs.Prelude.{◌≡◌, ℕ, zero, suc, ◌+◌, ◌-◌, ◌<◌, ◌≤◌, Bool, true, false}
use Rattle.std.proofs.Common.{add-zero, not-suc-le-zero}
use native.Mathlib.Omega.{arith}
use Rattle.laws.specs.Loops.{seek, first}

module _ {R : Type 0} (p : ℕ → Bool) (at : ℕ → R) (none : R) where
  seek_is : (n i k : ℕ) → k < n → p (i + k) ≡ true → ((m : ℕ) → i ≤ m → m < i + k → p m ≡ false) → seek p at none n i ≡ at (i + k)
  unfolding seek
  seek_is zero i k h t q = absurd (not-suc-le-zero h)
  seek_is (suc n) i zero h t q =
      let here : p i ≡ true = rw (add-zero i) at t in
      rw (add-zero i, here)
  seek_is (suc n) i (suc k) h t q =
      let e : i + suc k ≡ suc i + k = omega arith in
      rw (q i (omega arith) (omega arith), e) (seek_is n (suc i) k (omega arith) (rw e at t) (λ m a b. q m (omega arith) (omega arith)))

  -- the first place that passes is j
  pub first-is : (i e j : ℕ) → i ≤ j → j < e → p j ≡ true → ((m : ℕ) → i ≤ m → m < j → p m ≡ false) → first p at none i e ≡ at j
  unfolding first
  first-is i e j a b t q =
      let n : i + (j - i) ≡ j = omega arith in
      rw n at (seek_is (e - i) i (j - i) (omega arith) (rw n t) (λ m c d. q m c (omega arith)))
