-- The order of ℤ against 0 and of products: what the solver's theorems use. Assumes nothing.
use Rattle.std.specs.Prelude.{◌≡◌, refl, ◌⊎◌, zero, suc, ◌+◌, ◌*◌, Bool, true, false, not, ℤ, pos, negsuc, neg_ℤ, ◌+ℤ◌, ◌*ℤ◌, [], ◌∷◌}
use Rattle.std.proofs.Common.{sym, ap, subst, inl, inr, suc-mul, arith}
use lib.Dec.{T, leb, leb→le}
use Rattle.laws.specs.Ring.{ring, v, k as κ, ◌⊞◌, ◌⊠◌, ⊟◌}
use Rattle.laws.specs.Z.{◌≼◌, ◌≺◌, P, N, le→N, N→le, lt→N, N→lt, ext, at, ◌⊕◌, ◌⊗◌, ⊖◌, eq_z, le_z↑, lt_z↑, eq_n, le_n, lt_n}

abbrev pub 0ℤ : ℤ
0ℤ = pos 0

abbrev pub 1ℤ : ℤ
1ℤ = pos 1

-- ---- the order itself
pub ≼_refl : (a : ℤ) → a ≼ a
≼_refl a = N→le a a (omega arith)

pub ≼-of-eq : {a b : ℤ} → a ≡ b → a ≼ b
≼-of-eq {a} {b} e = N→le a b (omega (arith, ap P e, ap N e))

pub ≼_trans : {a b c : ℤ} → a ≼ b → b ≼ c → a ≼ c
≼_trans {a} {b} {c} h k = N→le a c (omega (arith, le→N a b h, le→N b c k))

pub ≼-antisym : {a b : ℤ} → a ≼ b → b ≼ a → a ≡ b
≼-antisym {a} {b} h k = ext a b (omega (arith, le→N a b h, le→N b a k))

pub ≺→≼ : {a b : ℤ} → a ≺ b → a ≼ b
≺→≼ {a} {b} h = N→le a b (omega (arith, lt→N a b h))

pub clash : {a b : ℤ} → a ≺ b → b ≼ a → ⊥
clash {a} {b} h k = omega (arith, lt→N a b h, le→N b a k)

pub ≺-irrefl : {a : ℤ} → a ≺ a → ⊥
≺-irrefl {a} h = clash h (≼_refl a)

pub ≺-or-≼ : (a b : ℤ) → (a ≺ b) ⊎ (b ≼ a)
≺-or-≼ a b = go (leb (P b + N a) (P a + N b)) refl
  where
    go : (t : Bool) → leb (P b + N a) (P a + N b) ≡ t → (a ≺ b) ⊎ (b ≼ a)
    go true e = inr (N→le b a (leb→le (P b + N a) (P a + N b) (subst T (sym e) tt)))
    go false e = inl (N→lt a b (lib.Dec.nleb→lt (P b + N a) (P a + N b) (subst (λ (x : Bool). T (not x)) (sym e) tt)))

pub ≼-or-≺ : {a b : ℤ} → a ≼ b → (a ≡ b) ⊎ (a ≺ b)
≼-or-≺ {a} {b} h = go (≺-or-≼ a b)
  where
    go : (a ≺ b) ⊎ (b ≼ a) → (a ≡ b) ⊎ (a ≺ b)
    go (inl k) = inr k
    go (inr k) = inl (≼-antisym h k)

-- ---- products
pub mul-nonneg : {a b : ℤ} → 0ℤ ≼ a → 0ℤ ≼ b → 0ℤ ≼ a *ℤ b
mul-nonneg {a = pos m} {b = pos n} h k = N→le 0ℤ (pos (m * n)) (omega arith)
mul-nonneg {a = pos m} {b = negsuc n} h k = absurd k.le
mul-nonneg {a = negsuc m} {b = b} h k = absurd h.le

pub mul-pos : {a b : ℤ} → 0ℤ ≺ a → 0ℤ ≺ b → 0ℤ ≺ a *ℤ b
mul-pos {a = pos zero} {b = b} h q = absurd h.lt
mul-pos {a = pos (suc m)} {b = pos zero} h q = absurd q.lt
mul-pos {a = pos (suc m)} {b = pos (suc n)} h q = N→lt 0ℤ (pos (suc m * suc n)) (omega (arith, suc-mul m (suc n)))
mul-pos {a = pos (suc m)} {b = negsuc n} h q = absurd q.lt
mul-pos {a = negsuc m} {b = b} h q = absurd h.lt

-- a negative product: one factor is below 0, the other above
pub mul-neg : (a b : ℤ) → a *ℤ b ≺ 0ℤ → ((a ≺ 0ℤ) × (0ℤ ≺ b)) ⊎ ((0ℤ ≺ a) × (b ≺ 0ℤ))
mul-neg (pos m) (pos n) h = absurd (clash h (N→le 0ℤ (pos (m * n)) (omega arith)))
mul-neg (pos zero) (negsuc n) h = absurd (clash h (≼-of-eq (eq_z (at 0ℤ) (at 0ℤ ⊗ at (negsuc n)) (omega arith))))
mul-neg (pos (suc m)) (negsuc n) h = inr (N→lt 0ℤ (pos (suc m)) (omega arith), record { lt = tt })
mul-neg (negsuc m) (pos zero) h = absurd (clash h (≼-of-eq (eq_z (at 0ℤ) (at (negsuc m) ⊗ at 0ℤ) (omega arith))))
mul-neg (negsuc m) (pos (suc n)) h = inl (record { lt = tt }, N→lt 0ℤ (pos (suc n)) (omega arith))
mul-neg (negsuc m) (negsuc n) h = absurd (clash h (N→le 0ℤ (pos (suc m * suc n)) (omega arith)))

pub add-nonneg : {a b : ℤ} → 0ℤ ≼ a → 0ℤ ≼ b → 0ℤ ≼ a +ℤ b
add-nonneg {a} {b} h k = le_z↑ (at 0ℤ) (at a ⊕ at b) (omega (arith, le→N 0ℤ a h, le→N 0ℤ b k))

-- a sum below 0 has a part below 0
pub add-neg : (a b : ℤ) → a +ℤ b ≺ 0ℤ → (a ≺ 0ℤ) ⊎ (b ≺ 0ℤ)
add-neg a b h = go (≺-or-≼ a 0ℤ) (≺-or-≼ b 0ℤ)
  where
    go : (a ≺ 0ℤ) ⊎ (0ℤ ≼ a) → (b ≺ 0ℤ) ⊎ (0ℤ ≼ b) → (a ≺ 0ℤ) ⊎ (b ≺ 0ℤ)
    go (inl k) _ = inl k
    go (inr j) (inl k) = inr k
    go (inr j) (inr k) = absurd (clash h (add-nonneg j k))

-- ---- for the ratio test and the objective's fall
pub sub-nonneg : {a b : ℤ} → a ≼ b → 0ℤ ≼ b +ℤ neg_ℤ a
sub-nonneg {a} {b} h = le_z↑ (at 0ℤ) (at b ⊕ (⊖ at a)) (omega (arith, le→N a b h))

pub neg-nonneg : {a : ℤ} → a ≼ 0ℤ → 0ℤ ≼ neg_ℤ a
neg-nonneg {a} h = le_z↑ (at 0ℤ) (⊖ at a) (omega (arith, le→N a 0ℤ h))

pub neg-pos : {a : ℤ} → a ≺ 0ℤ → 0ℤ ≺ neg_ℤ a
neg-pos {a} h = lt_z↑ (at 0ℤ) (⊖ at a) (omega (arith, lt→N a 0ℤ h))

-- from y, falling by -a for each unit, x units leave something
pub ratio : (x y a : ℤ) → x *ℤ neg_ℤ a ≼ y *ℤ neg_ℤ (negsuc 0) → 0ℤ ≼ y +ℤ a *ℤ x
ratio x y a h = ≼_trans (sub-nonneg h) (≼-of-eq (ring (x ∷ y ∷ a ∷ []) (v 1 ⊠ (⊟ κ (negsuc 0)) ⊞ (⊟ (v 0 ⊠ (⊟ v 2)))) (v 1 ⊞ v 2 ⊠ v 0) tt))

pub fall : (o a x : ℤ) → a ≺ 0ℤ → 0ℤ ≼ x → o +ℤ a *ℤ x ≼ o
fall o a x h k = le_z↑ (at o ⊕ at (a *ℤ x)) (at o) (omega (arith, le→N 0ℤ (neg_ℤ a *ℤ x) (mul-nonneg (neg-nonneg (≺→≼ h)) k), eq_n (at (neg_ℤ a *ℤ x)) (⊖ at (a *ℤ x)) (ring (a ∷ x ∷ []) ((⊟ v 0) ⊠ v 1) (⊟ (v 0 ⊠ v 1)) tt)))

pub still : (o a x : ℤ) → a ≺ 0ℤ → 0ℤ ≼ x → o ≼ o +ℤ a *ℤ x → x ≡ 0ℤ
still o a x h k s = go (≼-or-≺ k)
  where
    go : (0ℤ ≡ x) ⊎ (0ℤ ≺ x) → x ≡ 0ℤ
    go (inl p) = sym p
    go (inr p) = absurd (omega (arith, lt→N 0ℤ (neg_ℤ a *ℤ x) (mul-pos (neg-pos h) p), le_n (at o) (at o ⊕ at (a *ℤ x)) s, eq_n (at (neg_ℤ a *ℤ x)) (⊖ at (a *ℤ x)) (ring (a ∷ x ∷ []) ((⊟ v 0) ⊠ v 1) (⊟ (v 0 ⊠ v 1)) tt)))

pub from-neg : {a : ℤ} → neg_ℤ a ≺ 0ℤ → 0ℤ ≺ a
from-neg {a} h = lt_z↑ (at 0ℤ) (at a) (omega (arith, lt_n (⊖ at a) (at 0ℤ) h))

pub from-pos : {a : ℤ} → 0ℤ ≺ neg_ℤ a → a ≺ 0ℤ
from-pos {a} h = lt_z↑ (at a) (at 0ℤ) (omega (arith, lt_n (at 0ℤ) (⊖ at a) h))

pub neg-nonpos : {a : ℤ} → 0ℤ ≼ a → neg_ℤ a ≼ 0ℤ
neg-nonpos {a} h = le_z↑ (⊖ at a) (at 0ℤ) (omega (arith, le→N 0ℤ a h))
