-- A place's name once place p is gone: the places past p come one place down.
-- Assumes nothing.
use Rattle.std.specs.Prelude.{ℕ, ◌-◌, ◌≤◌, ◌<◌, ◌≡◌, refl, Bool, true, false, cond, ltb}
use Rattle.std.proofs.Common.{arith, ltb-true, ltb-false, lt-ltb, le-ltb}

unfoldable pub near_place : ℕ → ℕ → ℕ
near_place p x = cond (ltb p x) (x - 1) x

pub near-after : (p x : ℕ) → p < x → near_place p x ≡ x - 1
unfolding near_place
near-after p x h = rw (lt-ltb p x h) refl

pub near_before : (p x : ℕ) → x ≤ p → near_place p x ≡ x
unfolding near_place
near_before p x h = rw (le-ltb p x h) refl

pub near_by : (P : ℕ → Type 0) (p x : ℕ) → (p < x → P (x - 1)) → (x ≤ p → P x) → P (near_place p x)
unfolding near_place
near_by P p x f g = go (ltb p x) refl
  where
    go : (b : Bool) → ltb p x ≡ b → P (cond b (x - 1) x)
    go true q = f (ltb-true p x q)
    go false q = g (ltb-false p x q)

-- of two other places the order stays
pub near-lt : (p x y : ℕ) → (x ≡ p → ⊥) → (y ≡ p → ⊥) → x < y → near_place p x < near_place p y
near-lt p x y f g h =
    near_by (λ (z : ℕ). z < near_place p y) p x (λ u. near_by (λ (z : ℕ). x - 1 < z) p y (λ v. omega (arith, u, v, h)) (λ v. omega (arith, h, u)))
    (λ u. near_by (λ (z : ℕ). x < z) p y (λ v. omega (arith, u, v, f)) (λ v. h))

pub near-one : (p x y : ℕ) → (x ≡ p → ⊥) → (y ≡ p → ⊥) → near_place p x ≡ near_place p y → x ≡ y
near-one p x y f g e = go (ltb x y) refl (ltb y x) refl
  where
    go : (b : Bool) → ltb x y ≡ b → (c : Bool) → ltb y x ≡ c → x ≡ y
    go true q c r = let l = near-lt p x y f g (ltb-true x y q) in absurd (omega (arith, l, e))
    go false q true r = let l = near-lt p y x g f (ltb-true y x r) in absurd (omega (arith, l, e))
    go false q false r = omega (arith, ltb-false x y q, ltb-false y x r)

-- a live place stays live
pub near-live : (p k x : ℕ) → 1 ≤ p → p ≤ k → (x ≡ p → ⊥) → 1 ≤ x → x ≤ k → (1 ≤ near_place p x) × (near_place p x ≤ k - 1)
near-live p k x a b d c e =
    near_by (λ (z : ℕ). (1 ≤ z) × (z ≤ k - 1)) p x (λ u. (omega (arith, u, a), omega (arith, e))) (λ u. (c, omega (arith, u, d, b)))
