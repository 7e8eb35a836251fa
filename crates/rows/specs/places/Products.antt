-- What a product with 0 or with 1 tells of a number, by whether it is 0: with 0 that the number is finite, with 1 that it is absent.
-- Assumes nothing.
use Rattle.std.specs.Prelude.{◌≡◌, ℕ, zero, suc, ◌+◌, ◌-◌, ◌*◌, ◌/◌, ◌%◌, ◌^◌, ◌<◌, ◌≤◌, Bool, true, false, cond, ◌&&◌, T, ℤ, pos, ◌==◌, ◌≢◌, nat_le, nat_lt, Float}
use Prim.Native.Nat.{compare}
use Rattle.std.proofs.Math.Path.{refl}
use Rattle.std.proofs.Common.{sym, ◌∙◌, mul-zero, zero-mul, mul-pos, lt_of_not-le, le_trans, lt_of_lt_of_le, not-le_of_lt, le-div_iff_mul-le, le-mul_of_pos_right, arith, leb→le, pow_pos, pow_mono, ne_eqb}
use Rattle.std.proofs.Math.Nat.{div-div-eq-div-mul}
use Rattle.std.specs.Float.{nan, inf, fin, Format, binary64}
use Rattle.std.specs.Float.Ieee.{prec, emax, low, up, down, size, nearest, odd, units, round, of_bits, mul, eq, unlike, fits}
use Rattle.std.specs.Float.Ieee.Digits.{size-lt, size_reaches}
use Rattle.std.specs.Float.Ieee.Exact.{HasValue, odd_sign}
use Rattle.std.specs.Float.Ieee.Fits.{up_pos, down_pos, and_l, and_r, round_is, two, two-le_pos}
use Rattle.std.specs.Float.Ieee.Nearest.{nearest-ge}
use Rattle.std.specs.Float.Ieee.Scale.{round_same}
use Rattle.steps.specs.Number.{is_finite, zero64, one64}
use Rattle.steps.specs.Symbol.{absent}

-- ---- with 0

zero-rounds : (s : Bool) (d : ℕ) → 0 < d → round binary64 s 0 d ≡ fin s 0 (pos 0)
unfolding round
zero-rounds s d h = round_same binary64 s 0 d 0 1 h (omega arith) (omega arith) ∙ refl

zero_is : (s : Bool) → eq (fin s 0 (pos 0)) (fin false 0 (pos 0)) ≡ true
unfolding eq
zero_is true = refl
zero_is false = refl

pub by_zero : (x : Float) → eq (mul binary64 x zero64) zero64 ≡ is_finite x
unfolding eq is_finite mul zero64 of_bits
by_zero nan = refl
by_zero (inf s) = refl
by_zero (fin s m e) =
    let d = down_pos e in
    rw (mul-zero (m * up e), zero-rounds (unlike s false) (down e * 1) (omega (arith, d))) (zero_is (unlike s false))

-- ---- with 1: a fraction of at least the format's smallest value does not round to 0

value-not-zero : (x : Float) (s : Bool) (a c : ℕ) → 0 < a → HasValue x s a c → eq x (fin false 0 (pos 0)) ≡ false
unfolding eq
value-not-zero nan s a c h v = absurd v
value-not-zero (inf t) s a c h v = absurd v
value-not-zero (fin t m e) s a c h v = rw (ne_eqb (m * up e * 1) (0 * 1 * down e) (λ q. differ (m * up e) (a * down e) (mul-pos h (down_pos e)) v.1 q)) refl
  where
    differ : (b d : ℕ) → 0 < d → b * c ≡ d → b * 1 ≢ 0 * 1 * down e
    differ b d p q r =
        let z : b ≡ 0 = omega arith in
        let y : 0 * c ≡ d = rw z at q in
        omega arith

units-not-zero : (f : Format) (s : Bool) (q k : ℕ) → 0 < q → eq (units f s q k) (fin false 0 (pos 0)) ≡ false
unfolding units
units-not-zero f s q k h = go (nat_lt (q * 2 ^ k) (2 ^ (low f + suc (emax f))))
  where
    go : (b : Bool) → eq (cond b (odd (suc (prec f)) s q k (low f)) (inf s)) (fin false 0 (pos 0)) ≡ false
    go true = value-not-zero (odd (suc (prec f)) s q k (low f)) s (q * 2 ^ k) (2 ^ low f) (mul-pos h (pow_pos k)) (odd_sign (suc (prec f)) s q k (low f))
    go false = unfold eq in refl

-- fewer digits are dropped than there are
spare : (w p : ℕ) → 0 < w → 0 < p → 2 ^ (size w - p) ≤ w
spare w p h P = size_reaches w (size w - p) (fewer (size w) (lt_of_not-le λ z. not-le_of_lt (lt_of_lt_of_le (size-lt w) (pow_mono z)) h))
  where
    fewer : (z : ℕ) → 0 < z → z - p < z
    fewer z y = omega arith

round-not-zero : (f : Format) (s : Bool) (a d : ℕ) → 0 < d → d ≤ a * 2 ^ low f → eq (round f s a d) (fin false 0 (pos 0)) ≡ false
round-not-zero f s a d D h =
    let n = a * 2 ^ low f in
    let k = size (n / d) - prec f in
    let u = d * 2 ^ k in
    let w : 0 < n / d = (le-div_iff_mul-le D).1 (omega arith) in
    let v : 1 ≤ n / d / 2 ^ k = (le-div_iff_mul-le (pow_pos k)).1 (let g = spare (n / d) (prec f) w (two-le_pos (prec f) (two f)) in omega arith) in
    let z : 1 ≤ n / u = rw div-div-eq-div-mul at v in
    rw (round_is f s a d) (units-not-zero f s (nearest (n / u) (compare (n % u * 2) u)) k (le_trans z (nearest-ge (n / u) (compare (n % u * 2) u))))

-- a number that f64 holds is at least the smallest in size
not-below : (s : Bool) (m : ℕ) (e : ℤ) → T (fits binary64 (fin s (suc m) e)) → down e ≤ 2 ^ 1074
unfolding fits
not-below s m e t =
    leb→le (down e) (2 ^ 1074)
    (and_r (suc m % 2 == 1 && nat_lt (suc m) (2 ^ 53)) (nat_le (down e) (2 ^ 1074))
    (and_l (suc m % 2 == 1 && nat_lt (suc m) (2 ^ 53) && nat_le (down e) (2 ^ 1074)) (nat_lt (suc m * up e) (2 ^ 1024 * down e)) t))

enough : (a d p : ℕ) → 0 < a → d ≤ p → d * 1 ≤ a * 1 * p
enough a d p h g = le_trans (omega arith) (le_trans (le-mul_of_pos_right p h) (omega arith))

zero-absent : (s : Bool) (e : ℤ) → eq (fin s 0 e) (fin false 0 (pos 0)) ≡ true
unfolding eq
zero-absent true e = rw (zero-mul (up e), zero-mul (down e)) refl
zero-absent false e = rw (zero-mul (up e), zero-mul (down e)) refl

pub by_one : (x : Float) → T (fits binary64 x) → eq (mul binary64 x one64) zero64 ≡ absent x
unfolding mul absent zero64 one64 of_bits
by_one nan t = unfold eq in refl
by_one (inf s) t = unfold eq in refl
by_one (fin s zero e) t =
    let d = down_pos e in
    rw (zero-mul (up e), zero-rounds (unlike s false) (down e * 1) (omega (arith, d))) (zero_is (unlike s false) ∙ sym (zero-absent s e))
by_one (fin s (suc m) e) t =
    let d = down_pos e in
    let p : 0 < suc m * up e = mul-pos (omega arith) (up_pos e) in
    round-not-zero binary64 (unlike s false) (suc m * up e * 1) (down e * 1) (omega (arith, d)) (enough (suc m * up e) (down e) (2 ^ 1074) p (not-below s m e t))
    ∙ sym (value-not-zero (fin s (suc m) e) s (suc m * up e) (down e) p (refl, refl))
