-- The last of the places n, n - 1, .., 1 that passes a test: a loop that counts down, as laws' `first` is one that counts up.
-- Assumes nothing.
use Rattle.std.specs.Prelude.{◌≡◌, ℕ, zero, suc, ◌-◌, ◌<◌, ◌≤◌, Bool, true, false, cond}
use Rattle.std.proofs.Common.{not-suc-le-zero}
use native.Mathlib.Omega.{arith}

module _ {R : Type 0} (p : ℕ → Bool) (at : ℕ → R) (none : R) where
  unfoldable pub back : ℕ → R
  back zero = none
  back (suc n) = let r = back n in cond (p (suc n)) (at (suc n)) r

  pub back-next : (i : ℕ) {z : R} → 0 < i → p i ≡ false → back i ≡ z → back (i - 1) ≡ z
  unfolding back
  back-next zero h q r = absurd (not-suc-le-zero h)
  back-next (suc n) h q r =
      let e : suc n - 1 ≡ n = omega arith in
      rw e (rw q at r)

  pub back-here : (i : ℕ) {z : R} → 0 < i → p i ≡ true → back i ≡ z → at i ≡ z
  unfolding back
  back-here zero h q r = absurd (not-suc-le-zero h)
  back-here (suc n) h q r = rw q at r

  pub back_last : (i : ℕ) {z : R} → i ≤ 0 → back i ≡ z → none ≡ z
  unfolding back
  back_last zero h r = r
  back_last (suc n) h r = absurd (not-suc-le-zero h)
