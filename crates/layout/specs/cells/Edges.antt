-- Where a run of keys begins, walking back; and where it ends, walking on.
-- Assumes nothing.
use Rattle.std.specs.Prelude.{ℕ, ◌+◌, ◌-◌, ◌≤◌, ◌<◌, ◌≡◌, refl, Bool, true, false, List, ltb, get_or}
use Rattle.std.proofs.Common.{subst, arith, ltb-true, ltb-false}

-- the keys from r up to c are not below `low`, and the one before r, if it is not before a, is
pub record Begins (keys : List ℕ) (low a c r : ℕ) : Type 0 where
  pub from : a ≤ r
  pub to : r ≤ c
  pub inside : (t : ℕ) → r ≤ t → t < c → low ≤ get_or keys t 0
  pub before : a < r → get_or keys (r - 1) 0 < low

-- the keys from c up to r are below `high`, and the one at r, if it is before e, is not
pub record Ends (keys : List ℕ) (high c e r : ℕ) : Type 0 where
  pub from : c ≤ r
  pub to : r ≤ e
  pub inside : (t : ℕ) → c ≤ t → t < r → get_or keys t 0 < high
  pub after : r < e → high ≤ get_or keys r 0

-- ---- a turn of each walk

unfoldable pub From : List ℕ → ℕ → ℕ → ℕ → Type 0
From keys low c r = (t : ℕ) → r ≤ t → t < c → low ≤ get_or keys t 0

unfoldable pub Upto : List ℕ → ℕ → ℕ → ℕ → Type 0
Upto keys high c r = (t : ℕ) → c ≤ t → t < r → get_or keys t 0 < high

pub from-none : (keys : List ℕ) (low c : ℕ) → From keys low c c
unfolding From
from-none keys low c t u v = absurd (omega (arith, u, v))

pub from_more : (keys : List ℕ) (low c r : ℕ) → 0 < r → (get_or keys (r - 1) 0 < low → ⊥) → From keys low c r → From keys low c (r - 1)
unfolding From
from_more keys low c r h q f t u v = go (ltb t r) refl
  where
    go : (b : Bool) → ltb t r ≡ b → low ≤ get_or keys t 0
    go true e =
        let o : r - 1 ≡ t = omega (arith, u, h, ltb-true t r e) in
        subst (λ (z : ℕ). low ≤ get_or keys z 0) o (omega (arith, q))
    go false e = f t (ltb-false t r e) v

pub begins : (keys : List ℕ) (low a c r : ℕ) → a ≤ r → r ≤ c → (a < r → get_or keys (r - 1) 0 < low) → From keys low c r → Begins keys low a c r
unfolding From
begins keys low a c r h k q f = record { from = h; to = k; inside = f; before = q }

pub begins-last : (keys : List ℕ) (low a c r : ℕ) → a ≤ r → r ≤ a → a ≤ c → From keys low c r → Begins keys low a c a
begins-last keys low a c r h k l f =
    let o : r ≡ a = omega arith in
    begins keys low a c a (omega arith) l (λ q. absurd (omega (arith, q))) (subst (λ (z : ℕ). From keys low c z) o f)

pub upto-none : (keys : List ℕ) (high c : ℕ) → Upto keys high c c
unfolding Upto
upto-none keys high c t u v = absurd (omega (arith, u, v))

pub upto-more : (keys : List ℕ) (high c r : ℕ) → (high ≤ get_or keys r 0 → ⊥) → Upto keys high c r → Upto keys high c (r + 1)
unfolding Upto
upto-more keys high c r q f t u v = go (ltb t r) refl
  where
    go : (b : Bool) → ltb t r ≡ b → get_or keys t 0 < high
    go true e = f t u (ltb-true t r e)
    go false e =
        let o : r ≡ t = omega (arith, v, ltb-false t r e) in
        subst (λ (z : ℕ). get_or keys z 0 < high) o (omega (arith, q))

pub ends : (keys : List ℕ) (high c e r : ℕ) → c ≤ r → r ≤ e → (r < e → high ≤ get_or keys r 0) → Upto keys high c r → Ends keys high c e r
unfolding Upto
ends keys high c e r h k q f = record { from = h; to = k; inside = f; after = q }

pub ends_last : (keys : List ℕ) (high c e r : ℕ) → e ≤ r → r ≤ e → c ≤ e → Upto keys high c r → Ends keys high c e e
ends_last keys high c e r h k l f =
    let o : r ≡ e = omega arith in
    ends keys high c e e l (omega arith) (λ q. absurd (omega (arith, q))) (subst (λ (z : ℕ). Upto keys high c z) o f)
