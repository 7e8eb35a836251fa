-- Floats that are no fractions: whole numbers of any size, infinities and NaN. Sums, products and negations of such floats are none either, whatever is
-- rounded: a whole number rounds to a whole number or to an infinity. Assumes nothing.
use Rattle.std.specs.Prelude.{◌≡◌, refl, ℕ, suc, ◌+◌, ◌*◌, ◌-◌, ◌/◌, ◌%◌, ◌^◌, ◌≤◌, ◌<◌, Bool, true, false, not, ◌&&◌, cond, T, ltb, leb, eqb, ℤ, Float}
use Rattle.std.proofs.Common.{sym, ap, ◌∙◌, subst, mul-one, mul_assoc, mul_comm, mul-pos, mul_right_comm, lt_of_mul-lt-mul_right, lt_of_lt_of_le, div-one, div-add-mod', add-zero, arith, ltb→lt, leb→le, eqb→eq, lit<, pow-add, pow_pos, pow_mono}
use Rattle.std.proofs.Math.Nat.{mul-sub, mul-mod_left, mul-mul-mul_comm, eq_of_mul-eq-mul_right}
use Rattle.std.specs.Bool.{beq}
use Rattle.std.proofs.Math.Dec.{nleb→lt}
use Rattle.std.specs.Float.{nan, inf, fin, Format, binary64}
use Rattle.std.specs.Float.Ieee.{prec, emax, low, up, down, size, units, round, neg, sum, add, sub, mul, unlike}
use Rattle.std.specs.Float.Ieee.Digits.{size-lt}
use Rattle.std.specs.Float.Ieee.Exact.{HasValue, units_val}
use Rattle.std.specs.Float.Ieee.Fits.{round_is, down_pos, eq→eqb}
use Rattle.std.specs.Float.Ieee.Back.{round_whole}
use Rattle.std.specs.Float.Ieee.Scale.{round_same}

abbrev pub Unbroken : Float → Type 0
Unbroken nan = Unit
Unbroken (inf s) = Unit
Unbroken (fin s m e) = T (eqb (m * up e % down e) 0)

-- ---- rounding

-- a whole number's value
whole-value : (x : Float) (s : Bool) (n : ℕ) → HasValue x s n 1 → Unbroken x
whole-value nan s n h = tt
whole-value (inf t) s n h = tt
whole-value (fin t m e) s n h = eq→eqb (ap (λ (k : ℕ). k % down e) (sym (mul-one (m * up e)) ∙ h.1) ∙ mul-mod_left n (down e))

-- q * 2 ^ (l + j) over 2 ^ l is whole
scaled_value : (x : Float) (s : Bool) (q j l : ℕ) → HasValue x s (q * 2 ^ (j + l)) (2 ^ l) → Unbroken x
scaled_value nan s q j l h = tt
scaled_value (inf t) s q j l h = tt
scaled_value (fin t m e) s q j l h =
    whole-value (fin t m e) s (q * 2 ^ j) (
      h.0,
      mul-one (m * up e) ∙ eq_of_mul-eq-mul_right (2 ^ l) (pow_pos l) (m * up e) (q * 2 ^ j * down e)
          (h.1 ∙ ap (λ (x : ℕ). q * x * down e) (pow-add 2 j l) ∙ ap (λ (x : ℕ). x * down e) (sym (mul_assoc q (2 ^ j) (2 ^ l))) ∙ mul_right_comm (q * 2 ^ j) (2 ^ l) (down e)),
    )

module _ (f : Format) where
  -- from the format's units on, all values are whole
  large-units : (s : Bool) (q k : ℕ) → low f ≤ k → Unbroken (units f s q k)
  large-units s q k l = go (ltb (q * 2 ^ k) (2 ^ (low f + suc (emax f)))) refl
    where
      go : (b : Bool) → ltb (q * 2 ^ k) (2 ^ (low f + suc (emax f))) ≡ b → Unbroken (units f s q k)
      go true e =
          scaled_value (units f s q k) s q (k - low f) (low f)
          (subst (λ (i : ℕ). HasValue (units f s q k) s (q * 2 ^ i) (2 ^ low f)) (sym back) (units_val f s q k (ltb→lt (q * 2 ^ k) (2 ^ (low f + suc (emax f))) (subst T (sym e) tt))))
        where
          back : k - low f + low f ≡ k
          back = omega arith
      go false e = unfold units in rw (e, units) tt

  large : (n : ℕ) → 2 ^ prec f < n → low f ≤ size (n * 2 ^ low f / 1) - prec f
  large n h = go (leb (low f) (size (n * 2 ^ low f / 1) - prec f)) refl
    where
      N : ℕ
      N = n * 2 ^ low f / 1

      under : size N - prec f < low f → n < 2 ^ prec f
      under l =
          lt_of_mul-lt-mul_right (2 ^ low f)
          (subst (λ (x : ℕ). n * 2 ^ low f < x) (pow-add 2 (prec f) (low f))
          (lt_of_lt_of_le (subst (λ (x : ℕ). x < 2 ^ size N) (div-one (n * 2 ^ low f)) (size-lt N)) (pow_mono (within (size N) (prec f) (low f) l))))
        where
          within : (a p l : ℕ) → a - p < l → a ≤ p + l
          within a p l h = omega arith

      go : (b : Bool) → leb (low f) (size N - prec f) ≡ b → low f ≤ size N - prec f
      go true e = leb→le (low f) (size N - prec f) (subst T (sym e) tt)
      go false e = absurd (omega (arith, h, under (nleb→lt (low f) (size N - prec f) (subst (λ (b : Bool). T (not b)) (sym e) tt))))

  -- a whole number rounds to a whole number, or to an infinity
  round-unbroken : (s : Bool) (n : ℕ) → Unbroken (round f s n 1)
  round-unbroken s n = go (leb n (2 ^ prec f)) refl
    where
      go : (b : Bool) → leb n (2 ^ prec f) ≡ b → Unbroken (round f s n 1)
      go true e = whole-value (round f s n 1) s n (round_whole f s n (leb→le n (2 ^ prec f) (subst T (sym e) tt)))
      go false e = subst Unbroken (sym (round_is f s n 1)) (large-units s _ _ (large n (nleb→lt n (2 ^ prec f) (subst (λ (b : Bool). T (not b)) (sym e) tt))))

  -- over any denominator that divides it
  rounded : (s : Bool) (a c n : ℕ) → 0 < c → a ≡ n * c → Unbroken (round f s a c)
  rounded s a c n cp e = subst Unbroken (sym (round_same f s a c n 1 cp (lit< tt) (mul-one a ∙ e))) (round-unbroken s n)

-- ---- a float's whole size
pub size_of : (s : Bool) (m : ℕ) (e : ℤ) → Unbroken (fin s m e) → m * up e ≡ m * up e / down e * down e
size_of s m e h = sym (div-add-mod' (m * up e) (down e)) ∙ ap (λ (x : ℕ). m * up e / down e * down e + x) (eqb→eq (m * up e % down e) 0 h) ∙ add-zero (m * up e / down e * down e)

-- ---- the operations
pub neg-unbroken : (x : Float) → Unbroken x → Unbroken (neg x)
unfolding neg
neg-unbroken nan h = tt
neg-unbroken (inf s) h = tt
neg-unbroken (fin s m e) h = h

sum-unbroken : (s t : Bool) (a b c i j : ℕ) → 0 < c → a ≡ i * c → b ≡ j * c → Unbroken (sum binary64 s a t b c)
unfolding sum
sum-unbroken s t a b c i j cp ea eb = go (beq s t) (ltb a b) (s && ltb b a)
  where
    less : (a b i j : ℕ) → a ≡ i * c → b ≡ j * c → b - a ≡ (j - i) * c
    less a b i j ea eb = ap (λ (x : ℕ). x - a) eb ∙ ap (λ (x : ℕ). j * c - x) ea ∙ omega (arith, mul_comm c (j - i), mul-sub c j i, mul_comm c j, mul_comm c i)

    more : a + b ≡ (i + j) * c
    more = omega (arith, ea, eb)

    go : (p q r : Bool) → Unbroken (cond p (round binary64 s (a + b) c) (cond q (round binary64 t (b - a) c) (round binary64 r (a - b) c)))
    go true q r = rounded binary64 s (a + b) c (i + j) cp more
    go false true r = rounded binary64 t (b - a) c (j - i) cp (less a b i j ea eb)
    go false false r = rounded binary64 r (a - b) c (i - j) cp (less b a j i eb ea)

pub add-unbroken : (x y : Float) → Unbroken x → Unbroken y → Unbroken (add binary64 x y)
unfolding add
add-unbroken nan y g h = tt
add-unbroken (inf s) nan g h = tt
add-unbroken (inf s) (inf t) g h = go (beq s t)
  where
    go : (b : Bool) → Unbroken (cond b (inf s) nan)
    go true = tt
    go false = tt
add-unbroken (inf s) (fin t k d) g h = tt
add-unbroken (fin s m e) nan g h = tt
add-unbroken (fin s m e) (inf t) g h = tt
add-unbroken (fin s m e) (fin t k d) g h =
    sum-unbroken s t (m * up e * down d) (k * up d * down e) (down e * down d) (m * up e / down e) (k * up d / down d) (mul-pos (down_pos e) (down_pos d))
    (ap (λ (x : ℕ). x * down d) (size_of s m e g) ∙ mul_assoc (m * up e / down e) (down e) (down d))
    (ap (λ (x : ℕ). x * down e) (size_of t k d h) ∙ mul_assoc (k * up d / down d) (down d) (down e) ∙ ap (λ (x : ℕ). k * up d / down d * x) (mul_comm (down d) (down e)))

pub sub-unbroken : (x y : Float) → Unbroken x → Unbroken y → Unbroken (sub binary64 x y)
unfolding sub
sub-unbroken x y g h = add-unbroken x (neg y) g (neg-unbroken y h)

endless : (b s : Bool) → Unbroken (cond b nan (inf s))
endless true s = tt
endless false s = tt

pub mul-unbroken : (x y : Float) → Unbroken x → Unbroken y → Unbroken (mul binary64 x y)
unfolding mul
mul-unbroken nan y g h = tt
mul-unbroken (inf s) nan g h = tt
mul-unbroken (inf s) (inf t) g h = tt
mul-unbroken (inf s) (fin t k d) g h = endless (eqb k 0) (unlike s t)
mul-unbroken (fin s m e) nan g h = tt
mul-unbroken (fin s m e) (inf t) g h = endless (eqb m 0) (unlike s t)
mul-unbroken (fin s m e) (fin t k d) g h =
    rounded binary64 (unlike s t) (m * up e * (k * up d)) (down e * down d) (m * up e / down e * (k * up d / down d)) (mul-pos (down_pos e) (down_pos d))
    (ap (λ (x : ℕ). x * (k * up d)) (size_of s m e g) ∙ ap (λ (x : ℕ). m * up e / down e * down e * x) (size_of t k d h) ∙ mul-mul-mul_comm (m * up e / down e) (down e) (k * up d / down d) (down d))
