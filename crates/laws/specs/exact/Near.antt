-- A whole float against a small constant, as 1E-8: it is below the constant exactly when the integer is below 1. Assumes nothing.
use Rattle.std.specs.Prelude.{◌≡◌, Bool, ltb, ℤ, pos, neg_ℤ, Float}
use Rattle.std.proofs.Math.Path.{refl, sym, ap}
use Rattle.std.proofs.Common.{◌∙◌, mul-one, mul_assoc, mul_comm, mul-lt-mul_of_pos_right, arith, ltb→lt, lt→ltb}
use Prim.Native.Nat.{ℕ, zero, suc, ◌+◌, ◌*◌, ◌<◌}
use Rattle.std.proofs.Math.Nat.{mul-pos}
use Rattle.std.proofs.Math.Bool.{true, false}
use Rattle.std.specs.Int.Signed.{lt_z}
use Rattle.std.specs.Float.{nan}
use Rattle.std.specs.Float.Ieee.{inf, fin, up, down, lt}
use Rattle.std.specs.Float.Ieee.Bits.{is_true}
use Rattle.std.specs.Float.Ieee.Fits.{down_pos}
use Rattle.laws.specs.exact.Whole.{IsZ, sgn}
use Rattle.laws.specs.exact.Compare.{bool-ext}

-- ---- against a constant between 0 and 1: x < ε exactly when the integer is below 1
module _ (m : ℕ) (e : ℤ) (above : 0 < m * up e) (under : m * up e < down e) where
  lt-pos : (i k : ℕ) (d : ℤ) → k * up d * 1 ≡ i * down d → ltb (k * up d * down e) (m * up e * down d) ≡ ltb i 1
  lt-pos i k d h = bool-ext (ltb (k * up d * down e) (m * up e * down d)) (ltb i 1)
      (λ t. lt→ltb i 1 (to i h (ltb→lt (k * up d * down e) (m * up e * down d) t)))
      (λ t. lt→ltb (k * up d * down e) (m * up e * down d) (from i h (ltb→lt i 1 t)))
    where
      big : m * up e * down d < down e * down d
      big = mul-lt-mul_of_pos_right under (down_pos d)

      num : (i : ℕ) → k * up d * 1 ≡ i * down d → k * up d * down e ≡ i * (down e * down d)
      num i h = ap (λ (x : ℕ). x * down e) (sym (mul-one (k * up d)) ∙ h) ∙ mul_assoc i (down d) (down e) ∙ ap (λ (x : ℕ). i * x) (mul_comm (down d) (down e))

      to : (i : ℕ) → k * up d * 1 ≡ i * down d → k * up d * down e < m * up e * down d → i < 1
      to zero h l = omega arith
      to (suc i) h l = absurd (omega (arith, big, num (suc i) h))

      from : (i : ℕ) → k * up d * 1 ≡ i * down d → i < 1 → k * up d * down e < m * up e * down d
      from zero h l = omega (arith, num zero h, mul-pos above (down_pos d))
      from (suc i) h l = absurd (omega arith)

  pub lt-small : {x : Float} {a : ℤ} → IsZ x a → lt x (fin false m e) ≡ lt_z a (pos 1)
  unfolding lt
  lt-small {x = nan} h = absurd h.has
  lt-small {x = inf s} h = absurd h.has
  lt-small {x = fin false k d} {a} h = lt-pos h.size k d h.has.1 ∙ ap (λ (z : ℤ). lt_z z (pos 1)) (ap (λ (o : Bool). sgn o h.size) h.has.0 ∙ h.is)
  lt-small {x = fin true k d} {a} h =
      is_true (ltb 0 (k * up d * down e + m * up e * down d)) (lt→ltb 0 (k * up d * down e + m * up e * down d) (omega (arith, mul-pos above (down_pos d))))
      ∙ sym (low h.size) ∙ ap (λ (z : ℤ). lt_z z (pos 1)) (ap (λ (o : Bool). sgn o h.size) h.has.0 ∙ h.is)
    where
      low : (i : ℕ) → lt_z (neg_ℤ (pos i)) (pos 1) ≡ true
      low zero = refl
      low (suc i) = refl
