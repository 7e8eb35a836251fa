-- Floats that are whole numbers. `IsZ x z` says that x is finite and its value is the integer z (-0 has the value 0). On binary64, sums, differences, products and negations of such
-- floats are exact while the result's magnitude is at most 2 ^ 53, and the comparisons decide the order of ℤ. Assumes nothing.
use Rattle.std.specs.Prelude.{◌≡◌, refl, ℕ, zero, suc, ◌+◌, ◌*◌, ◌-◌, ◌/◌, ◌%◌, ◌^◌, ◌≤◌, ◌<◌, Bool, true, false, not, cond, T, ltb, eqb, ℤ, pos, negsuc, neg_ℤ, nat_abs, ◌+ℤ◌, ◌-ℤ◌, ◌*ℤ◌, Float}
use Rattle.std.proofs.Common.{sym, ap, ◌∙◌, subst, mul-one, mul_assoc, mul-pos, mul_comm, mul-div_cancel, le_of_mul-le-mul_right, lt_of_mul-lt-mul_right, mul-le-mul, zero-mul, div-add-mod', add-zero, arith, ltb→lt, nltb→le, eqb→eq, lit<}
use Rattle.std.proofs.Math.Nat.{mul-mul-mul_comm, mul-sub, mul-mod_left}
use Rattle.std.specs.Float.{nan, inf, fin, binary64}
use Rattle.std.specs.Float.Ieee.{up, down, round, neg, sum, add, sub, mul, div, of_int, unlike}
use Rattle.std.specs.Float.Ieee.Exact.{HasValue}
use Rattle.std.specs.Float.Ieee.Back.{round_whole}
use Rattle.std.specs.Float.Ieee.Scale.{round_same}
use Rattle.std.specs.Float.Ieee.Fits.{down_pos, eq→eqb}
use Rattle.laws.specs.Z.{at, ◌⊕◌, ◌⊗◌, ⊖◌, ◌⊝◌, eq_z, eq_zb, eq_zb→, mul-cancel, abs-mul, abs-sub, abs_neg}

abbrev pub sgn : Bool → ℕ → ℤ
sgn false k = pos k
sgn true k = neg_ℤ (pos k)

pub record IsZ (x : Float) (z : ℤ) : Type 0 where
  pub sign : Bool
  pub size : ℕ
  pub has : HasValue x sign size 1
  pub is : sgn sign size ≡ z

-- ---- the integer is the float's own
unfoldable pub val : Float → ℤ
val nan = pos 0
val (inf s) = pos 0
val (fin s m e) = sgn s (m * up e / down e)

pub isz-val : {x : Float} {z : ℤ} → IsZ x z → val x ≡ z
unfolding val
isz-val {x = nan} h = absurd h.has
isz-val {x = inf s} h = absurd h.has
isz-val {x = fin s m e} h =
    ap (λ (b : Bool). sgn b (m * up e / down e)) h.has.0
    ∙ ap (λ (k : ℕ). sgn h.sign (k / down e)) (sym (mul-one (m * up e)) ∙ h.has.1)
    ∙ ap (sgn h.sign) (mul-div_cancel h.size (down_pos e)) ∙ h.is

pub isz-to : {x : Float} {a b : ℤ} → IsZ x a → a ≡ b → IsZ x b
isz-to h e = record { sign = h.sign; size = h.size; has = h.has; is = h.is ∙ e }

-- ---- rounding
pub abs-sgn : (s : Bool) (k : ℕ) → nat_abs (sgn s k) ≡ k
abs-sgn false k = refl
abs-sgn true zero = refl
abs-sgn true (suc k) = refl

mk : (s : Bool) (m c k : ℕ) (z : ℤ) → 0 < c → m ≡ k * c → sgn s k ≡ z → nat_abs z ≤ 2 ^ 53 → IsZ (round binary64 s m c) z
mk s m c k z cp e h l = record {
  sign = s;
  size = k;
  has = subst (λ (x : Float). HasValue x s k 1) (sym (round_same binary64 s m c k 1 cp (lit< tt) (mul-one m ∙ e)))
      (round_whole binary64 s k (subst (λ (j : ℕ). j ≤ 2 ^ 53) (sym (ap nat_abs h) ∙ abs-sgn s k) l));
  is = h;
}

-- ---- the sum
module _ (c a b i j : ℕ) (cp : 0 < c) (ea : a ≡ i * c) (eb : b ≡ j * c) where
  less : b - a ≡ (j - i) * c
  less = ap (λ (x : ℕ). x - a) eb ∙ ap (λ (x : ℕ). j * c - x) ea ∙ flip
    where
      flip : j * c - i * c ≡ (j - i) * c
      flip = omega (arith, mul_comm c (j - i), mul-sub c j i, mul_comm c j, mul_comm c i)

  below-is : a < b → i < j
  below-is h = lt_of_mul-lt-mul_right c (omega arith)

  above-is : b ≤ a → j ≤ i
  above-is h = le_of_mul-le-mul_right {k = c} (omega arith) cp

sum-z : (s t : Bool) (i j c a b : ℕ) → 0 < c → a ≡ i * c → b ≡ j * c → nat_abs (sgn s i +ℤ sgn t j) ≤ 2 ^ 53 → IsZ (sum binary64 s a t b c) (sgn s i +ℤ sgn t j)
unfolding sum
sum-z false false i j c a b cp ea eb l = mk false (a + b) c (i + j) (pos i +ℤ pos j) cp (omega arith) refl l
sum-z true true i j c a b cp ea eb l =
    mk true (a + b) c (i + j) (neg_ℤ (pos i) +ℤ neg_ℤ (pos j)) cp (omega arith) (eq_z (⊖ at (pos (i + j))) ((⊖ at (pos i)) ⊕ (⊖ at (pos j))) (omega arith)) l
sum-z false true i j c a b cp ea eb l = go (ltb a b) (ltb→lt a b) (nltb→le a b)
  where
    z : ℤ
    z = pos i +ℤ neg_ℤ (pos j)

    go : (o : Bool) → (T o → a < b) → (T (not o) → b ≤ a) → IsZ (cond o (round binary64 true (b - a) c) (round binary64 false (a - b) c)) (pos i +ℤ neg_ℤ (pos j))
    go true f g =
        let h = below-is c a b i j cp ea eb (f tt) in
        mk true (b - a) c (j - i) (pos i +ℤ neg_ℤ (pos j)) cp (less c a b i j cp ea eb) (eq_z (⊖ at (pos (j - i))) (at (pos i) ⊝ at (pos j)) (omega arith)) l
    go false f g =
        let h = above-is c a b i j cp ea eb (g tt) in
        mk false (a - b) c (i - j) (pos i +ℤ neg_ℤ (pos j)) cp (less c b a j i cp eb ea) (eq_z (at (pos (i - j))) (at (pos i) ⊝ at (pos j)) (omega arith)) l
sum-z true false i j c a b cp ea eb l = go (ltb a b) (ltb→lt a b) (nltb→le a b) (ltb b a) (nltb→le b a)
  where
    go : (o : Bool) → (T o → a < b) → (T (not o) → b ≤ a) → (r : Bool) → (T (not r) → a ≤ b)
        → IsZ (cond o (round binary64 false (b - a) c) (round binary64 r (a - b) c)) (neg_ℤ (pos i) +ℤ pos j)
    go true f g r k =
        let h = below-is c a b i j cp ea eb (f tt) in
        mk false (b - a) c (j - i) (neg_ℤ (pos i) +ℤ pos j) cp (less c a b i j cp ea eb) (eq_z (at (pos (j - i))) ((⊖ at (pos i)) ⊕ at (pos j)) (omega arith)) l
    go false f g true k =
        let h = above-is c a b i j cp ea eb (g tt) in
        mk true (a - b) c (i - j) (neg_ℤ (pos i) +ℤ pos j) cp (less c b a j i cp eb ea) (eq_z (⊖ at (pos (i - j))) ((⊖ at (pos i)) ⊕ at (pos j)) (omega arith)) l
    go false f g false k =
        let h = above-is c a b i j cp ea eb (g tt) in
        let h' = above-is c b a j i cp eb ea (k tt) in
        mk false (a - b) c (i - j) (neg_ℤ (pos i) +ℤ pos j) cp (less c b a j i cp eb ea) (eq_z (at (pos (i - j))) ((⊖ at (pos i)) ⊕ at (pos j)) (omega arith)) l

-- a fraction over down e, over a common denominator
pub scaled : (m u k d g : ℕ) → m * u * 1 ≡ k * d → m * u * g ≡ k * (d * g)
scaled m u k d g h = ap (λ (x : ℕ). x * g) (sym (mul-one (m * u)) ∙ h) ∙ mul_assoc k d g

pub add-z : {x y : Float} {a b : ℤ} → IsZ x a → IsZ y b → nat_abs (a +ℤ b) ≤ 2 ^ 53 → IsZ (add binary64 x y) (a +ℤ b)
unfolding add
add-z {x = nan} h g l = absurd h.has
add-z {x = inf s} h g l = absurd h.has
add-z {x = fin s m e} {y = nan} h g l = absurd g.has
add-z {x = fin s m e} {y = inf t} h g l = absurd g.has
add-z {x = fin s m e} {y = fin t k d} {a} {b} h g l =
    let ha : sgn s h.size ≡ a = ap (λ (o : Bool). sgn o h.size) h.has.0 ∙ h.is in
    let gb : sgn t g.size ≡ b = ap (λ (o : Bool). sgn o g.size) g.has.0 ∙ g.is in
    let eq : sgn s h.size +ℤ sgn t g.size ≡ a +ℤ b = ap (λ (z : ℤ). z +ℤ sgn t g.size) ha ∙ ap (λ (z : ℤ). a +ℤ z) gb in
    isz-to
    (sum-z s t h.size g.size (down e * down d) (m * up e * down d) (k * up d * down e) (mul-pos (down_pos e) (down_pos d))
    (scaled m (up e) h.size (down e) (down d) h.has.1)
    (scaled k (up d) g.size (down d) (down e) g.has.1 ∙ ap (λ (x : ℕ). g.size * x) (mul_comm (down d) (down e)))
    (subst (λ (z : ℤ). nat_abs z ≤ 2 ^ 53) (sym eq) l))
    eq

-- ---- negation and difference
neg-sgn : (s : Bool) (k : ℕ) → sgn (not s) k ≡ neg_ℤ (sgn s k)
neg-sgn false k = refl
neg-sgn true k = eq_z (at (pos k)) (⊖ (⊖ at (pos k))) (omega arith)

pub neg-z : {x : Float} {a : ℤ} → IsZ x a → IsZ (neg x) (neg_ℤ a)
unfolding neg
neg-z {x = nan} h = absurd h.has
neg-z {x = inf s} h = absurd h.has
neg-z {x = fin s m e} h = record { sign = not h.sign; size = h.size; has = (ap not h.has.0, h.has.1); is = neg-sgn h.sign h.size ∙ ap neg_ℤ h.is }

pub sub-z : {x y : Float} {a b : ℤ} → IsZ x a → IsZ y b → nat_abs (a -ℤ b) ≤ 2 ^ 53 → IsZ (sub binary64 x y) (a -ℤ b)
unfolding sub
sub-z h g l = add-z h (neg-z g) l

-- ---- the product
mul-sgn : (s t : Bool) (i j : ℕ) → sgn (unlike s t) (i * j) ≡ sgn s i *ℤ sgn t j
mul-sgn false false i j = refl
mul-sgn false true i j = eq_z (⊖ at (pos (i * j))) (at (pos i) ⊗ (⊖ at (pos j))) (omega arith)
mul-sgn true false i j = eq_z (⊖ at (pos (i * j))) ((⊖ at (pos i)) ⊗ at (pos j)) (omega arith)
mul-sgn true true i j = eq_z (at (pos (i * j))) ((⊖ at (pos i)) ⊗ (⊖ at (pos j))) (omega arith)

pub mul-z : {x y : Float} {a b : ℤ} → IsZ x a → IsZ y b → nat_abs (a *ℤ b) ≤ 2 ^ 53 → IsZ (mul binary64 x y) (a *ℤ b)
unfolding mul
mul-z {x = nan} h g l = absurd h.has
mul-z {x = inf s} h g l = absurd h.has
mul-z {x = fin s m e} {y = nan} h g l = absurd g.has
mul-z {x = fin s m e} {y = inf t} h g l = absurd g.has
mul-z {x = fin s m e} {y = fin t k d} {a} {b} h g l =
    let ha : sgn s h.size ≡ a = ap (λ (o : Bool). sgn o h.size) h.has.0 ∙ h.is in
    let gb : sgn t g.size ≡ b = ap (λ (o : Bool). sgn o g.size) g.has.0 ∙ g.is in
    mk (unlike s t) (m * up e * (k * up d)) (down e * down d) (h.size * g.size) (a *ℤ b) (mul-pos (down_pos e) (down_pos d))
    (ap (λ (x : ℕ). x * (k * up d)) (sym (mul-one (m * up e)) ∙ h.has.1) ∙ ap (λ (x : ℕ). h.size * down e * x) (sym (mul-one (k * up d)) ∙ g.has.1) ∙ mul-mul-mul_comm h.size (down e) g.size (down d))
    (mul-sgn s t h.size g.size ∙ ap (λ (z : ℤ). z *ℤ sgn t g.size) ha ∙ ap (λ (z : ℤ). a *ℤ z) gb)
    l

-- ---- two floats over one denominator
module _ (s t : Bool) (m k : ℕ) (e d : ℤ) (a b : ℤ) (h : IsZ (fin s m e) a) (g : IsZ (fin t k d) b) where
  pub first-is : sgn s h.size ≡ a
  first-is = ap (λ (o : Bool). sgn o h.size) h.has.0 ∙ h.is

  pub second_is : sgn t g.size ≡ b
  second_is = ap (λ (o : Bool). sgn o g.size) g.has.0 ∙ g.is

  pub left_is : m * up e * down d ≡ h.size * (down e * down d)
  left_is = scaled m (up e) h.size (down e) (down d) h.has.1

  pub right_is : k * up d * down e ≡ g.size * (down e * down d)
  right_is = scaled k (up d) g.size (down d) (down e) g.has.1 ∙ ap (λ (x : ℕ). g.size * x) (mul_comm (down d) (down e))

-- ---- an exact quotient
unlike-twice : (s t : Bool) → unlike (unlike s t) t ≡ s
unlike-twice false false = refl
unlike-twice false true = refl
unlike-twice true false = refl
unlike-twice true true = refl

abs-pos : (b : ℤ) → (b ≡ pos 0 → ⊥) → 0 < nat_abs b
abs-pos (pos zero) h = absurd (h refl)
abs-pos (pos (suc k)) h = omega arith
abs-pos (negsuc k) h = omega arith

-- x / y where y divides x: a ≡ q * b
pub div-z : {x y : Float} {a b : ℤ} (q : ℤ) → IsZ x a → IsZ y b → a ≡ q *ℤ b → (b ≡ pos 0 → ⊥) → nat_abs q ≤ 2 ^ 53 → IsZ (div binary64 x y) q
unfolding div
div-z {x = nan} q h g w nz l = absurd h.has
div-z {x = inf s} q h g w nz l = absurd h.has
div-z {x = fin s m e} {y = nan} q h g w nz l = absurd g.has
div-z {x = fin s m e} {y = inf t} q h g w nz l = absurd g.has
div-z {x = fin s m e} {y = fin t k d} {a} {b} q h g w nz l = past (eqb k 0) (λ u. some (eqb→eq k 0 u))
  where
    c : ℕ
    c = down e * down d

    ha : sgn s h.size ≡ a
    ha = ap (λ (o : Bool). sgn o h.size) h.has.0 ∙ h.is

    gb : sgn t g.size ≡ b
    gb = ap (λ (o : Bool). sgn o g.size) g.has.0 ∙ g.is

    j_pos : 0 < g.size
    j_pos = subst (λ (x : ℕ). 0 < x) (sym (ap nat_abs gb) ∙ abs-sgn t g.size) (abs-pos b nz)

    some : k ≡ 0 → ⊥
    some z = omega (arith, mul-pos j_pos (down_pos d), sym g.has.1 ∙ ap (λ (x : ℕ). x * up d * 1) z ∙ ap (λ (x : ℕ). x * 1) (zero-mul (up d)))

    size_is : h.size ≡ nat_abs q * g.size
    size_is = sym (abs-sgn s h.size) ∙ ap nat_abs (ha ∙ w) ∙ abs-mul q b ∙ ap (λ (x : ℕ). nat_abs q * x) (sym (ap nat_abs gb) ∙ abs-sgn t g.size)

    num-is : m * up e * down d ≡ nat_abs q * (k * up d * down e)
    num-is =
        left_is s t m k e d a b h g ∙ ap (λ (x : ℕ). x * (down e * down d)) size_is ∙ mul_assoc (nat_abs q) g.size (down e * down d)
        ∙ ap (λ (x : ℕ). nat_abs q * x) (sym (right_is s t m k e d a b h g))

    den_pos : 0 < k * up d * down e
    den_pos = subst (λ (x : ℕ). 0 < x) (sym (right_is s t m k e d a b h g)) (mul-pos j_pos (mul-pos (down_pos e) (down_pos d)))

    back : sgn (unlike s t) (nat_abs q) *ℤ b ≡ q *ℤ b
    back =
        ap (λ (z : ℤ). sgn (unlike s t) (nat_abs q) *ℤ z) (sym gb) ∙ sym (mul-sgn (unlike s t) t (nat_abs q) g.size)
        ∙ ap (λ (o : Bool). sgn o (nat_abs q * g.size)) (unlike-twice s t) ∙ ap (sgn s) (sym size_is) ∙ ha ∙ w

    there : IsZ (round binary64 (unlike s t) (m * up e * down d) (k * up d * down e)) q
    there = mk (unlike s t) (m * up e * down d) (k * up d * down e) (nat_abs q) q den_pos num-is (mul-cancel back nz) l

    past : (o : Bool) → (T o → ⊥) → IsZ (cond o (cond (eqb m 0) nan (inf (unlike s t))) (round binary64 (unlike s t) (m * up e * down d) (k * up d * down e))) q
    past true f = absurd (f tt)
    past false f = there

-- ---- literals, and whole floats
unfoldable pub int : Float → Bool
int nan = false
int (inf s) = false
int (fin s m e) = eqb (m * up e % down e) 0

pub int-z : (x : Float) → T (int x) → IsZ x (val x)
unfolding int val
int-z nan t = absurd t
int-z (inf s) t = absurd t
int-z (fin s m e) t = record {
  sign = s;
  size = m * up e / down e;
  has = (refl, mul-one (m * up e) ∙ sym (div-add-mod' (m * up e) (down e)) ∙ ap (λ (x : ℕ). m * up e / down e * down e + x) (eqb→eq (m * up e % down e) 0 t) ∙ add-zero (m * up e / down e * down e));
  is = refl;
}

pub z-int : {x : Float} {z : ℤ} → IsZ x z → T (int x)
unfolding int
z-int {x = nan} h = absurd h.has
z-int {x = inf s} h = absurd h.has
z-int {x = fin s m e} h = eq→eqb (ap (λ (k : ℕ). k % down e) (sym (mul-one (m * up e)) ∙ h.has.1) ∙ mul-mod_left h.size (down e))

-- a literal: `lit-z tt tt`
pub lit-z : {x : Float} {z : ℤ} → T (int x) → T (eq_zb (val x) z) → IsZ x z
lit-z {x} {z} t u = isz-to (int-z x t) (eq_zb→ (val x) z u)

pub of_int-z : (z : ℤ) → nat_abs z ≤ 2 ^ 53 → IsZ (of_int binary64 z) z
unfolding of_int
of_int-z (pos k) l = mk false k 1 k (pos k) (lit< tt) (sym (mul-one k)) refl l
of_int-z (negsuc k) l = mk true (suc k) 1 (suc k) (negsuc k) (lit< tt) (sym (mul-one (suc k))) refl l

-- -1.0 / c for c = 1 and c = -1
pub minus-one-over : {x y : Float} {c : ℤ} → IsZ x (negsuc 0) → IsZ y c → c *ℤ c ≡ pos 1 → IsZ (div binary64 x y) (neg_ℤ c)
minus-one-over {c} h g e =
    let one : nat_abs c * nat_abs c ≡ 1 = sym (abs-mul c c) ∙ ap nat_abs e in
    div-z (neg_ℤ c) h g (sym (eq_z ((⊖ at c) ⊗ at c) (⊖ (at c ⊗ at c)) (omega arith) ∙ ap neg_ℤ e))
    (λ z. absurd (zero≢ (ap (λ (x : ℕ). x * x) (ap nat_abs z)) one))
    (omega (arith, abs_neg c, small (nat_abs c) one))
  where
    zero≢ : nat_abs c * nat_abs c ≡ 0 * 0 → nat_abs c * nat_abs c ≡ 1 → ⊥
    zero≢ u o = omega arith

    small : (k : ℕ) → k * k ≡ 1 → k ≤ 1
    small zero o = omega arith
    small (suc k) o = omega arith

-- ---- with a bound: x is the whole number z, of magnitude at most b
pub record Zb (b : ℕ) (x : Float) (z : ℤ) : Type 0 where
  pub isz : IsZ x z
  pub small : nat_abs z ≤ b

pub within : {b c : ℕ} {x : Float} {z : ℤ} → Zb b x z → b ≤ c → Zb c x z
within h l = record { isz = h.isz; small = omega arith }

pub sub-b : {b c : ℕ} {x y : Float} {a d : ℤ} → Zb b x a → Zb c y d → b + c ≤ 2 ^ 53 → Zb (b + c) (sub binary64 x y) (a -ℤ d)
sub-b {a} {d} h g l = record { isz = sub-z h.isz g.isz (omega (arith, abs-sub a d)); small = omega (arith, abs-sub a d) }

pub neg-b : {b : ℕ} {x : Float} {a : ℤ} → Zb b x a → Zb b (neg x) (neg_ℤ a)
neg-b {a} h = record { isz = neg-z h.isz; small = omega (arith, abs_neg a) }

pub mul-b : {b c : ℕ} {x y : Float} {a d : ℤ} → Zb b x a → Zb c y d → b * c ≤ 2 ^ 53 → Zb (b * c) (mul binary64 x y) (a *ℤ d)
mul-b {b} {c} {x} {y} {a} {d} h g l = record { isz = mul-z h.isz g.isz (omega (arith, s)); small = s }
  where
    s : nat_abs (a *ℤ d) ≤ b * c
    s = omega (arith, abs-mul a d, mul-le-mul h.small g.small)
