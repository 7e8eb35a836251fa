-- Comparisons of floats that are whole numbers: the test on floats is the test on integers. Assumes nothing.
use Rattle.std.specs.Prelude.{◌≡◌, refl, ℕ, zero, suc, ◌+◌, ◌*◌, ◌<◌, Bool, true, false, not, ◌&&◌, ◌||◌, T, ltb, leb, eqb, ℤ, pos, neg_ℤ, nat_abs, Float}
use Rattle.std.proofs.Common.{sym, ap, ◌∙◌, subst, mul-pos, lt_of_mul-lt-mul_right, mul-lt-mul_of_pos_right, zero-mul, arith, ltb→lt, lt→ltb, le→leb, eqb→eq}
use Rattle.std.proofs.Math.Nat.{eq_of_mul-eq-mul_right}
use Rattle.std.specs.Bool.{beq}
use Rattle.std.proofs.Math.Dec.{leb-suc-zero, leb-suc-suc, leb-zero}
use Rattle.std.specs.Int.Signed.{lt_z, le_z, lt_z_yes, lt_z_no}
use Rattle.std.specs.Float.{nan, inf, fin}
use Rattle.std.specs.Float.Ieee.{up, down, lt, le, eq, below, level}
use Rattle.std.specs.Float.Ieee.Fits.{down_pos, and_i, and_l, and_r, eq→eqb}
use Rattle.laws.specs.Z.{eq_zb, eq_zb→, ≡→eq_zb, ◌≼◌, ≺→≼, ≼_refl, ≼-antisym}
use Rattle.laws.specs.exact.Whole.{sgn, IsZ, abs-sgn, first-is, second_is, left_is, right_is}

-- ---- comparisons: the test on floats is the test on integers
pub bool-ext : (b c : Bool) → (T b → T c) → (T c → T b) → b ≡ c
bool-ext true true f g = refl
bool-ext true false f g = absurd (f tt)
bool-ext false true f g = absurd (g tt)
bool-ext false false f g = refl

below-scaled : (i j c : ℕ) → 0 < c → ltb (i * c) (j * c) ≡ ltb i j
below-scaled i j c cp = bool-ext (ltb (i * c) (j * c)) (ltb i j)
    (λ t. lt→ltb i j (lt_of_mul-lt-mul_right c (ltb→lt (i * c) (j * c) t)))
    (λ t. lt→ltb (i * c) (j * c) (mul-lt-mul_of_pos_right (ltb→lt i j t) cp))

level-scaled : (i j c : ℕ) → 0 < c → eqb (i * c) (j * c) ≡ eqb i j
level-scaled i j c cp = bool-ext (eqb (i * c) (j * c)) (eqb i j)
    (λ t. eq→eqb (eq_of_mul-eq-mul_right c cp i j (eqb→eq (i * c) (j * c) t)))
    (λ t. eq→eqb (ap (λ (x : ℕ). x * c) (eqb→eq i j t)))

sum-pos : (i j c : ℕ) → 0 < c → ltb 0 (i * c + j * c) ≡ ltb 0 (i + j)
sum-pos i j c cp = ap (ltb 0) (sym (e i j c)) ∙ ap (λ (x : ℕ). ltb x ((i + j) * c)) (sym (zero-mul c)) ∙ below-scaled 0 (i + j) c cp
  where
    e : (i j c : ℕ) → (i + j) * c ≡ i * c + j * c
    e i j c = omega arith

pub below-z : (s t : Bool) (i j c : ℕ) → 0 < c → below s (i * c) t (j * c) ≡ lt_z (sgn s i) (sgn t j)
below-z false false i j c cp = below-scaled i j c cp
below-z false true i zero c cp = sym (leb-suc-zero i)
below-z false true i (suc j) c cp = refl
below-z true false zero j c cp = sum-pos 0 j c cp ∙ ap (ltb 0) (e j)
  where
    e : (j : ℕ) → 0 + j ≡ j
    e j = omega arith
below-z true false (suc i) j c cp = sum-pos (suc i) j c cp ∙ ap (ltb 0) (e i j) ∙ leb-suc-suc 0 (i + j) ∙ leb-zero (i + j)
  where
    e : (i j : ℕ) → suc i + j ≡ suc (i + j)
    e i j = omega arith
below-z true true zero zero c cp = below-scaled 0 0 c cp
below-z true true zero (suc j) c cp = below-scaled (suc j) 0 c cp ∙ leb-suc-zero (suc j)
below-z true true (suc i) zero c cp = below-scaled 0 (suc i) c cp ∙ leb-suc-suc 0 i ∙ leb-zero i
below-z true true (suc i) (suc j) c cp = below-scaled (suc j) (suc i) c cp ∙ leb-suc-suc (suc j) i

level-sgn : (s t : Bool) (i j : ℕ) → level s i t j ≡ eq_zb (sgn s i) (sgn t j)
level-sgn s t i j = bool-ext (level s i t j) (eq_zb (sgn s i) (sgn t j))
    (λ u. ≡→eq_zb (to s t (eqb→eq i j (and_l (eqb i j) (beq s t || eqb i 0) u)) (and_r (eqb i j) (beq s t || eqb i 0) u)))
    (λ u. from s t i j (eq_zb→ (sgn s i) (sgn t j) u))
  where
    none : (k : ℕ) → k ≡ 0 → neg_ℤ (pos k) ≡ pos k
    none k h = ap (λ (x : ℕ). neg_ℤ (pos x)) h ∙ sym (ap pos h)

    to : (s t : Bool) → i ≡ j → T (beq s t || eqb i 0) → sgn s i ≡ sgn t j
    to false false h u = ap pos h
    to true true h u = ap (λ (x : ℕ). neg_ℤ (pos x)) h
    to true false h u = none i (eqb→eq i 0 u) ∙ ap pos h
    to false true h u = ap pos h ∙ sym (none j (sym h ∙ eqb→eq i 0 u))

    size_is : (s t : Bool) (i j : ℕ) → sgn s i ≡ sgn t j → i ≡ j
    size_is s t i j h = sym (abs-sgn s i) ∙ ap nat_abs h ∙ abs-sgn t j

    zero_of : (i j : ℕ) → pos i ≡ neg_ℤ (pos j) → i ≡ 0
    zero_of i zero h = ap nat_abs h
    zero_of i (suc j) h = absurd (subst (λ (z : ℤ). T (le_z (pos 0) z)) h (leb·0 i))
      where
        leb·0 : (i : ℕ) → T (leb 0 i)
        leb·0 i = le→leb 0 i (omega arith)

    from : (s t : Bool) (i j : ℕ) → sgn s i ≡ sgn t j → T (level s i t j)
    from false false i j h = and_i (eqb i j) (true || eqb i 0) (eq→eqb (size_is false false i j h)) tt
    from true true i j h = and_i (eqb i j) (true || eqb i 0) (eq→eqb (size_is true true i j h)) tt
    from false true i j h = and_i (eqb i j) (false || eqb i 0) (eq→eqb (size_is false true i j h)) (eq→eqb (zero_of i j h))
    from true false i j h = and_i (eqb i j) (false || eqb i 0) (eq→eqb (size_is true false i j h)) (eq→eqb (size_is true false i j h ∙ zero_of j i (sym h)))

level-z : (s t : Bool) (i j c : ℕ) → 0 < c → level s (i * c) t (j * c) ≡ eq_zb (sgn s i) (sgn t j)
level-z s t i j c cp =
    ap (λ (b : Bool). b && (beq s t || eqb (i * c) 0)) (level-scaled i j c cp)
    ∙ ap (λ (b : Bool). eqb i j && (beq s t || b)) (ap (eqb (i * c)) (sym (zero-mul c)) ∙ level-scaled i 0 c cp)
    ∙ level-sgn s t i j

-- ---- the tests
pub lt-z : {x y : Float} {a b : ℤ} → IsZ x a → IsZ y b → lt x y ≡ lt_z a b
unfolding lt
lt-z {x = nan} h g = absurd h.has
lt-z {x = inf s} h g = absurd h.has
lt-z {x = fin s m e} {y = nan} h g = absurd g.has
lt-z {x = fin s m e} {y = inf t} h g = absurd g.has
lt-z {x = fin s m e} {y = fin t k d} {a} {b} h g =
    ap (λ (x : ℕ). below s x t (k * up d * down e)) (left_is s t m k e d a b h g)
    ∙ ap (λ (x : ℕ). below s (h.size * (down e * down d)) t x) (right_is s t m k e d a b h g)
    ∙ below-z s t h.size g.size (down e * down d) (mul-pos (down_pos e) (down_pos d))
    ∙ ap (λ (z : ℤ). lt_z z (sgn t g.size)) (first-is s t m k e d a b h g) ∙ ap (lt_z a) (second_is s t m k e d a b h g)

pub eq-z : {x y : Float} {a b : ℤ} → IsZ x a → IsZ y b → eq x y ≡ eq_zb a b
unfolding eq
eq-z {x = nan} h g = absurd h.has
eq-z {x = inf s} h g = absurd h.has
eq-z {x = fin s m e} {y = nan} h g = absurd g.has
eq-z {x = fin s m e} {y = inf t} h g = absurd g.has
eq-z {x = fin s m e} {y = fin t k d} {a} {b} h g =
    ap (λ (x : ℕ). level s x t (k * up d * down e)) (left_is s t m k e d a b h g)
    ∙ ap (λ (x : ℕ). level s (h.size * (down e * down d)) t x) (right_is s t m k e d a b h g)
    ∙ level-z s t h.size g.size (down e * down d) (mul-pos (down_pos e) (down_pos d))
    ∙ ap (λ (z : ℤ). eq_zb z (sgn t g.size)) (first-is s t m k e d a b h g) ∙ ap (eq_zb a) (second_is s t m k e d a b h g)

or-le : (a b : ℤ) → lt_z a b || eq_zb a b ≡ le_z a b
or-le a b = bool-ext (lt_z a b || eq_zb a b) (le_z a b) (λ t. to (lt_z a b) (eq_zb a b) (λ u. (≺→≼ {a = a} {b = b} (lt_z_yes u)).le) (λ u. same (eq_zb→ a b u)) t) (λ t. from (lt_z a b) (λ u. lt_z_no {a = a} {b = b} u) (record { le = t }))
  where
    same : a ≡ b → T (le_z a b)
    same h = subst (λ (z : ℤ). T (le_z a z)) h (≼_refl a).le

    to : (o r : Bool) → (T o → T (le_z a b)) → (T r → T (le_z a b)) → T (o || r) → T (le_z a b)
    to true r f g t = f tt
    to false r f g t = g t

    from : (o : Bool) → (T (not o) → b ≼ a) → a ≼ b → T (o || eq_zb a b)
    from true f h = tt
    from false f h = ≡→eq_zb (≼-antisym h (f tt))

pub le-z : {x y : Float} {a b : ℤ} → IsZ x a → IsZ y b → le x y ≡ le_z a b
unfolding le
le-z {a} {b} h g = rw (lt-z h g, eq-z h g) (or-le a b)
