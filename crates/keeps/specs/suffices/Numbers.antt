-- f64 compared as numbers: equality is one, and a sum with a zero is the number that it was. Assumes nothing.
use Rattle.std.specs.Prelude.{◌≡◌, refl, ◌⊎◌, Bool, true, false, not, ◌&&◌, ◌||◌, cond, ℕ, zero, suc, ◌+◌, ◌-◌, ◌*◌, ◌%◌, ◌^◌, ◌≤◌, ◌<◌, T, eqb, ltb, leb, ℤ, pos, negsuc, Float}
use Rattle.std.proofs.Common.{sym, ap, ◌∙◌, subst, inl, inr, true≢false, mul_assoc, mul_comm, mul_right_comm, mul-pos, mul-one, one-mul, zero-mul, lt_irrefl, lt_of_lt_of_le, lt_of_mul-lt-mul_right, mul-lt-mul_of_pos_right, arith, eqb→eq, ltb→lt, leb→le, nltb→le, pow-add, pow_pos}
use Rattle.std.specs.Bool.{beq}
use Rattle.std.proofs.Math.Nat.{eq_of_mul-eq-mul_right}
use Rattle.std.proofs.Math.Dec.{eqb_refl, nleb→lt}
use Rattle.std.proofs.Math.Pow.{pow-lt}
use Rattle.std.specs.Float.{nan, inf, fin, binary64}
use Rattle.std.specs.Float.Ieee.{prec, emax, low, up, down, round, sum, add, eq, fits, of_bits, level}
use Rattle.std.specs.Float.Ieee.Fits.{and_l, and_r, down_pos}
use Rattle.std.specs.Float.Ieee.Exact.{HasValue, round_exact}
use Rattle.steps.specs.Number.{zero64, is_finite, ◌+₆₄◌}
use Rattle.keeps.specs.Lists.{so, truly, both, left, right}

-- the same number
abbrev pub Is : Float → Float → Type 0
Is x y = eq x y ≡ true

-- ---- of itself

level-refl : (s : Bool) (a : ℕ) → level s a s a ≡ true
level-refl true a = both (truly (eqb a a) (eqb_refl a)) refl
level-refl false a = both (truly (eqb a a) (eqb_refl a)) refl

pub is-refl : (x : Float) → is_finite x ≡ true → Is x x
unfolding eq is_finite
is-refl nan e = absurd (true≢false (sym e))
is-refl (inf s) e = absurd (true≢false (sym e))
is-refl (fin s m e) f = level-refl s (m * up e * down e)

-- ---- both ways, and on

beq-sym : (s t : Bool) → beq s t ≡ beq t s
beq-sym true true = refl
beq-sym true false = refl
beq-sym false true = refl
beq-sym false false = refl

level_in : (s t : Bool) (a b : ℕ) → level s a t b ≡ true → (a ≡ b) × ((beq s t || eqb a 0) ≡ true)
level_in s t a b e = (eqb→eq a b (so (left (eqb a b) _ e)), right (eqb a b) _ e)

level_out : (s t : Bool) (a b : ℕ) → a ≡ b → (beq s t || eqb a 0) ≡ true → level s a t b ≡ true
level_out s t a b e f = both (subst (λ (k : ℕ). eqb a k ≡ true) e (truly (eqb a a) (eqb_refl a))) f

pub is-sym : (x y : Float) → Is x y → Is y x
unfolding eq
is-sym nan y e = absurd (true≢false (sym e))
is-sym (inf s) nan e = absurd (true≢false (sym e))
is-sym (inf s) (inf t) e = beq-sym t s ∙ e
is-sym (inf s) (fin t n d) e = absurd (true≢false (sym e))
is-sym (fin s m e) nan h = absurd (true≢false (sym h))
is-sym (fin s m e) (inf t) h = absurd (true≢false (sym h))
is-sym (fin s m e) (fin t n d) h =
    let l = level_in s t (m * up e * down d) (n * up d * down e) h in
    level_out t s (n * up d * down e) (m * up e * down d) (sym l.0) (subst (λ (b : Bool). (b || eqb (n * up d * down e) 0) ≡ true) (beq-sym s t) (subst (λ (k : ℕ). (beq s t || eqb k 0) ≡ true) l.0 l.1))

-- a product with a number above 0 is 0 only if the other is
nil : (x d : ℕ) → 0 < d → x * d ≡ 0 → x ≡ 0
nil x d p e = eq_of_mul-eq-mul_right d p x 0 (e ∙ sym (zero-mul d))

cross : (x y z a b c : ℕ) → 0 < b → x * b ≡ y * a → y * c ≡ z * b → x * c ≡ z * a
cross x y z a b c p e f =
    eq_of_mul-eq-mul_right b p (x * c) (z * a)
    (mul_right_comm x c b ∙ ap (λ (k : ℕ). k * c) e ∙ mul_right_comm y a c ∙ ap (λ (k : ℕ). k * a) f ∙ mul_right_comm z b a)

zero-yes : (k : ℕ) → k ≡ 0 → eqb k 0 ≡ true
zero-yes k e = rw e refl

or_right : (a b : Bool) → b ≡ true → (a || b) ≡ true
or_right true b e = refl
or_right false b e = e

pub is-trans : (x y z : Float) → Is x y → Is y z → Is x z
unfolding eq
is-trans nan y z e f = absurd (true≢false (sym e))
is-trans (inf s) nan z e f = absurd (true≢false (sym e))
is-trans (inf s) (fin t n d) z e f = absurd (true≢false (sym e))
is-trans (inf s) (inf t) nan e f = absurd (true≢false (sym f))
is-trans (inf s) (inf t) (fin r k g) e f = absurd (true≢false (sym f))
is-trans (inf true) (inf true) (inf r) e f = f
is-trans (inf true) (inf false) (inf r) e f = absurd (true≢false (sym e))
is-trans (inf false) (inf true) (inf r) e f = absurd (true≢false (sym e))
is-trans (inf false) (inf false) (inf r) e f = f
is-trans (fin s m e) nan z h k = absurd (true≢false (sym h))
is-trans (fin s m e) (inf t) z h k = absurd (true≢false (sym h))
is-trans (fin s m e) (fin t n d) nan h k = absurd (true≢false (sym k))
is-trans (fin s m e) (fin t n d) (inf r) h k = absurd (true≢false (sym k))
is-trans (fin s m e) (fin t n d) (fin r l g) h k =
    let a = level_in s t (m * up e * down d) (n * up d * down e) h in
    let b = level_in t r (n * up d * down g) (l * up g * down d) k in
    level_out s r (m * up e * down g) (l * up g * down e) (cross (m * up e) (n * up d) (l * up g) (down e) (down d) (down g) (down_pos d) a.0 b.0)
    (signs s t r (eqb (m * up e * down d) 0) refl (eqb (n * up d * down g) 0) refl a.0 a.1 b.1)
  where
    X : ℕ
    X = m * up e

    Y : ℕ
    Y = n * up d

    none : X ≡ 0 → (q : Bool) → (q || eqb (X * down g) 0) ≡ true
    none z q = or_right q (eqb (X * down g) 0) (zero-yes (X * down g) (rw z (zero-mul (down g))))

    signs : (s t r : Bool) → (p : Bool) → eqb (X * down d) 0 ≡ p → (q : Bool) → eqb (Y * down g) 0 ≡ q → X * down d ≡ Y * down e → (beq s t || p) ≡ true → (beq t r || q) ≡ true
        → (beq s r || eqb (X * down g) 0) ≡ true
    signs s t r true v q w c i j = none (nil X (down d) (down_pos d) (eqb→eq (X * down d) 0 (so v))) (beq s r)
    signs s t r false v true w c i j = none (nil X (down d) (down_pos d) (c ∙ ap (λ (y : ℕ). y * down e) (nil Y (down g) (down_pos g) (eqb→eq (Y * down g) 0 (so w))) ∙ zero-mul (down e))) (beq s r)
    signs true true true false v false w c i j = refl
    signs true true false false v false w c i j = absurd (true≢false (sym j))
    signs true false r false v false w c i j = absurd (true≢false (sym i))
    signs false true r false v false w c i j = absurd (true≢false (sym i))
    signs false false true false v false w c i j = absurd (true≢false (sym j))
    signs false false false false v false w c i j = refl

-- ---- a sum with a zero

-- what has this value, as a fraction, is this number; a zero has either sign
value-is : (y : Float) (s t : Bool) (m : ℕ) (e : ℤ) (k : ℕ) → 0 < k → HasValue y t (m * up e * k) (down e * k) → (t ≡ s) ⊎ (m * up e * k ≡ 0) → Is y (fin s m e)
unfolding eq
value-is nan s t m e k p h q = absurd h
value-is (inf r) s t m e k p h q = absurd h
value-is (fin r n d) s t m e k p h q = level_out r s (n * up d * down e) (m * up e * down d) same (sign q)
  where
    same : n * up d * down e ≡ m * up e * down d
    same =
        eq_of_mul-eq-mul_right k p (n * up d * down e) (m * up e * down d)
        (mul_assoc (n * up d) (down e) k ∙ h.1 ∙ mul_right_comm (m * up e) k (down d))

    equal : (r s : Bool) → r ≡ s → beq r s ≡ true
    equal true s e = rw (← e) refl
    equal false s e = rw (← e) refl

    sign : (t ≡ s) ⊎ (m * up e * k ≡ 0) → (beq r s || eqb (n * up d * down e) 0) ≡ true
    sign (inl z) = ap (λ (b : Bool). b || eqb (n * up d * down e) 0) (equal r s (h.0 ∙ z))
    sign (inr z) = or_right (beq r s) _ (zero-yes (n * up d * down e) (same ∙ ap (λ (y : ℕ). y * down d) (nil (m * up e) k p z) ∙ zero-mul (down d)))

-- how the format counts a number that it holds: q times 2 ^ j of its smallest
record Counted (m : ℕ) (e : ℤ) : Type 0 where
  j : ℕ
  small : m < 2 ^ prec binary64
  fine : m * 2 ^ j < 2 ^ (low binary64 + suc (emax binary64))
  is : m * up e * 2 ^ low binary64 ≡ m * 2 ^ j * down e

pow-back : (a b : ℕ) → 2 ^ a ≤ 2 ^ b → a ≤ b
pow-back a b h = go (leb a b) (leb→le a b) (nleb→lt a b)
  where
    go : (t : Bool) → (T t → a ≤ b) → (T (not t) → b < a) → a ≤ b
    go true p q = p tt
    go false p q = absurd (lt_irrefl (2 ^ b) (lt_of_lt_of_le (pow-lt (q tt)) h))

-- 2 ^ e in units of the smallest
units_of : (e : ℤ) → down e ≤ 2 ^ low binary64 → (j : ℕ) × (up e * 2 ^ low binary64 ≡ 2 ^ j * down e)
units_of (pos k) h = (k + low binary64, sym (pow-add 2 k (low binary64)) ∙ sym (mul-one (2 ^ (k + low binary64))))
units_of (negsuc k) h = (low binary64 - suc k, one-mul (2 ^ low binary64) ∙ ap (λ (x : ℕ). 2 ^ x) back ∙ pow-add 2 (low binary64 - suc k) (suc k))
  where
    back : low binary64 ≡ low binary64 - suc k + suc k
    back = omega (arith, pow-back (suc k) (low binary64) h)

counted : (s : Bool) (m : ℕ) (e : ℤ) → T (fits binary64 (fin s (suc m) e)) → Counted (suc m) e
unfolding fits
counted s m e t =
    let u = units_of e (leb→le (down e) (2 ^ low binary64) third) in
    record { j = u.0; small = ltb→lt (suc m) (2 ^ prec binary64) second; fine = bound u.0 u.1; is = mul_assoc (suc m) (up e) (2 ^ low binary64) ∙ ap (λ (x : ℕ). suc m * x) u.1 ∙ sym (mul_assoc (suc m) (2 ^ u.0) (down e)) }
  where
    odd : Bool
    odd = eqb (suc m % 2) 1

    few : Bool
    few = ltb (suc m) (2 ^ prec binary64)

    low-enough : Bool
    low-enough = leb (down e) (2 ^ low binary64)

    under : Bool
    under = ltb (suc m * up e) (2 ^ suc (emax binary64) * down e)

    second : T few
    second = and_r odd few (and_l (odd && few) low-enough (and_l (odd && few && low-enough) under t))

    third : T low-enough
    third = and_r (odd && few) low-enough (and_l (odd && few && low-enough) under t)

    bound : (j : ℕ) → up e * 2 ^ low binary64 ≡ 2 ^ j * down e → suc m * 2 ^ j < 2 ^ (low binary64 + suc (emax binary64))
    bound j q =
        lt_of_mul-lt-mul_right (down e)
        (subst (λ (x : ℕ). x < 2 ^ (low binary64 + suc (emax binary64)) * down e) (mul_assoc (suc m) (up e) (2 ^ low binary64) ∙ ap (λ (x : ℕ). suc m * x) q ∙ sym (mul_assoc (suc m) (2 ^ j) (down e)))
        (subst (λ (x : ℕ). suc m * up e * 2 ^ low binary64 < x) right_side (mul-lt-mul_of_pos_right (ltb→lt (suc m * up e) (2 ^ suc (emax binary64) * down e) (and_r (odd && few && low-enough) under t)) (pow_pos (low binary64)))))
      where
        right_side : 2 ^ suc (emax binary64) * down e * 2 ^ low binary64 ≡ 2 ^ (low binary64 + suc (emax binary64)) * down e
        right_side =
            mul_right_comm (2 ^ suc (emax binary64)) (down e) (2 ^ low binary64)
            ∙ ap (λ (x : ℕ). x * down e) (mul_comm (2 ^ suc (emax binary64)) (2 ^ low binary64) ∙ sym (pow-add 2 (low binary64) (suc (emax binary64))))

-- a number that the format holds is rounded to itself, whatever fraction it comes as
round-held : (t s : Bool) (m : ℕ) (e : ℤ) (k : ℕ) → 0 < k → T (fits binary64 (fin s m e)) → HasValue (round binary64 t (m * up e * k) (down e * k)) t (m * up e * k) (down e * k)
round-held t s zero e k p f =
    round_exact binary64 t (0 * up e * k) (down e * k) 0 0 (mul-pos (down_pos e) p) (pow_pos (prec binary64)) (subst (λ (x : ℕ). x < 2 ^ (low binary64 + suc (emax binary64))) (sym (zero-mul (2 ^ 0))) (pow_pos (low binary64 + suc (emax binary64))))
    (ap (λ (x : ℕ). x * k * 2 ^ low binary64) (zero-mul (up e)) ∙ ap (λ (x : ℕ). x * 2 ^ low binary64) (zero-mul k) ∙ zero-mul (2 ^ low binary64) ∙ sym (ap (λ (x : ℕ). x * (down e * k)) (zero-mul (2 ^ 0)) ∙ zero-mul (down e * k)))
round-held t s (suc m) e k p f =
    let c : Counted (suc m) e = counted s m e f in
    round_exact binary64 t (suc m * up e * k) (down e * k) (suc m) c.j (mul-pos (down_pos e) p) c.small c.fine
    (mul_right_comm (suc m * up e) k (2 ^ low binary64) ∙ ap (λ (x : ℕ). x * k) c.is ∙ mul_assoc (suc m * 2 ^ c.j) (down e) k)

sum-zero : (s t : Bool) (m : ℕ) (e : ℤ) (k b : ℕ) → 0 < k → b ≡ 0 → T (fits binary64 (fin s m e)) → Is (sum binary64 s (m * up e * k) t b (down e * k)) (fin s m e)
unfolding sum
sum-zero s t m e k b p z f = subst (λ (x : ℕ). Is (sum binary64 s A t x c) (fin s m e)) (sym z) (go (beq s t) (ltb A 0) (ltb→lt A 0) (ltb 0 A) (nltb→le 0 A))
  where
    A : ℕ
    A = m * up e * k

    c : ℕ
    c = down e * k

    rounds : (r : Bool) (x : ℕ) → x ≡ A → (r ≡ s) ⊎ (A ≡ 0) → Is (round binary64 r x c) (fin s m e)
    rounds r x q h = subst (λ (x : ℕ). Is (round binary64 r x c) (fin s m e)) (sym q) (value-is (round binary64 r A c) s r m e k p (round-held r s m e k p f) h)

    and-true : (s : Bool) → (s && true) ≡ s
    and-true true = refl
    and-true false = refl

    go : (q l : Bool) → (T l → A < 0) → (r : Bool) → (T (not r) → A ≤ 0) → Is (cond q (round binary64 s (A + 0) c) (cond l (round binary64 t (0 - A) c) (round binary64 (s && r) (A - 0) c))) (fin s m e)
    go true l h r g = rounds s (A + 0) (omega arith) (inl refl)
    go false true h r g = absurd (omega (arith, h tt))
    go false false h true g = rounds (s && true) (A - 0) (omega arith) (inl (and-true s))
    go false false h false g = rounds (s && false) (A - 0) (omega arith) (inr (omega (arith, g tt)))

-- "compared as numbers": adding a zero of either sign changes no f64
pub zero-added : (x p : Float) → is_finite x ≡ true → T (fits binary64 x) → Is p zero64 → Is (x +₆₄ p) x
unfolding add eq is_finite zero64 of_bits
zero-added nan p i f z = absurd (true≢false (sym i))
zero-added (inf s) p i f z = absurd (true≢false (sym i))
zero-added (fin s m e) nan i f z = absurd (true≢false (sym z))
zero-added (fin s m e) (inf t) i f z = absurd (true≢false (sym z))
zero-added (fin s m e) (fin t n d) i f z = sum-zero s t m e (down d) (n * up d * down e) (down_pos d) none f
  where
    none : n * up d * down e ≡ 0
    none =
        let l : n * up d * 1 ≡ 0 * up (pos 0) * down d = (level_in t false (n * up d * 1) (0 * up (pos 0) * down d) z).0 in
        ap (λ (x : ℕ). x * down e) (sym (mul-one (n * up d)) ∙ l ∙ ap (λ (x : ℕ). x * down d) (zero-mul (up (pos 0))) ∙ zero-mul (down d)) ∙ zero-mul (down e)
