-- What a test over places says of each place; and which of n numbers, read one by one, is x.
-- Assumes nothing.
use Rattle.std.specs.Prelude.{◌≡◌, ℕ, zero, suc, ◌+◌, ◌-◌, ◌<◌, ◌≤◌, Bool, true, false, cond, ltb, ◌==◌, nat_eq, nat_lt}
use Rattle.std.proofs.Math.Path.{refl, sym}
use Rattle.std.proofs.Math.Nat.{sub-zero}
use native.Mathlib.Omega.{arith}
use borrow.Author.Tests.{eqb-true, eqb-false, ltb-true, ltb-false}
use Rattle.laws.specs.Loops.{seek, first}
use Rattle.laws.specs.Lists.{all_from, all_in}
use Rattle.layout.specs.Rooms.{and_left, and_right}

-- ---- a test over places, place by place

pub never : {A : Type 0} (n : ℕ) → n < n → A
never n h = absurd (omega arith)

all-from : (p : ℕ → Bool) (i n : ℕ) → all_from p i n ≡ true → (j : ℕ) → i ≤ j → j < i + n → p j ≡ true
unfolding all_from
all-from p i zero h j a b = never i (omega arith)
all-from p i (suc n) h j a b = go (nat_lt i j) refl (all-from p (suc i) n (and_right (p i) (all_from p (suc i) n) h) j)
  where
    go : (d : Bool) → nat_lt i j ≡ d → (suc i ≤ j → j < suc i + n → p j ≡ true) → p j ≡ true
    go true e rest = let k = ltb-true i j e in rest (omega arith) (omega arith)
    go false e rest =
        let k = ltb-false i j e in
        let q : i ≡ j = omega arith in
        rw q at (and_left (p i) (all_from p (suc i) n) h)

from_all : (p : ℕ → Bool) (i n : ℕ) → ((j : ℕ) → i ≤ j → j < i + n → p j ≡ true) → all_from p i n ≡ true
unfolding all_from
from_all p i zero f = refl
from_all p i (suc n) f = rw (f i (omega arith) (omega arith)) (from_all p (suc i) n λ j a b. f j (omega arith) (omega arith))

pub all-at : (p : ℕ → Bool) (i e : ℕ) → all_in p i e ≡ true → (j : ℕ) → i ≤ j → j < e → p j ≡ true
unfolding all_in
all-at p i e h j a b = all-from p i (e - i) h j a (omega arith)

pub at_all : (p : ℕ → Bool) (i e : ℕ) → ((j : ℕ) → i ≤ j → j < e → p j ≡ true) → all_in p i e ≡ true
unfolding all_in
at_all p i e f = from_all p i (e - i) λ j a b. f j a (omega arith)

-- ---- which of n numbers is x: n if none is

unfoldable pub place_in : (ℕ → ℕ) → ℕ → ℕ → ℕ
place_in g n x = first (λ j. nat_eq x (g j)) (λ j. j) n 0 n

module _ (g : ℕ → ℕ) (x e : ℕ) where
  abbrev found : ℕ → ℕ → ℕ
  found n i = seek (λ j. nat_eq x (g j)) (λ j. j) e n i

  abbrev Found : ℕ → ℕ → Type 0
  Found i z = (z ≤ e) × (z < e → g z ≡ x) × ((j : ℕ) → i ≤ j → j < e → g j ≡ x → z < e)

  sought : (n i : ℕ) → i + n ≡ e → Found i (found n i)
  unfolding seek
  sought zero i q = (omega arith, λ h. never e h, λ j a b c. never j (omega arith))
  sought (suc n) i q = go (x == g i) refl (sought n (suc i) (omega arith))
    where
      go : (b : Bool) → (x == g i) ≡ b → Found (suc i) (found n (suc i)) → Found i (cond b i (found n (suc i)))
      go true h r = (omega arith, λ k. sym (eqb-true x (g i) h), λ j a b c. omega arith)
      go false h r = (
        r.0,
        r.1,
        λ j a b c. past j a b c (nat_lt i j) refl,
      )
        where
          past : (j : ℕ) → i ≤ j → j < e → g j ≡ x → (d : Bool) → nat_lt i j ≡ d → found n (suc i) < e
          past j a b c true k = let l = ltb-true i j k in r.2 j (omega arith) b c
          past j a b c false k =
              let l = ltb-false i j k in
              let s : i ≡ j = omega arith in
              absurd (eqb-false x (g i) h (sym (rw (← s) at c)))

module _ (g : ℕ → ℕ) (n x : ℕ) where
  place_found : Found g x n 0 (place_in g n x)
  unfolding place_in first
  place_found = rw (sub-zero n) (sought g x n n 0 (omega arith))

  pub place-le : place_in g n x ≤ n
  place-le = place_found.0

  pub place_is : place_in g n x < n → g (place_in g n x) ≡ x
  place_is = place_found.1

  pub place-live : (j : ℕ) → j < n → g j ≡ x → place_in g n x < n
  place-live j h q = place_found.2 j (omega arith) h q

-- no two of the n are the same
abbrev pub Apart : (ℕ → ℕ) → ℕ → Type 0
Apart g n = (i j : ℕ) → i < n → j < n → g i ≡ g j → i ≡ j

pub place_at : (g : ℕ → ℕ) (n j : ℕ) → Apart g n → j < n → place_in g n (g j) ≡ j
place_at g n j apart h =
    let p = place-live g n (g j) j h refl in
    apart (place_in g n (g j)) j p h (place_is g n (g j) p)

-- ---- numbers that rise are apart

abbrev pub Rising : (ℕ → ℕ) → ℕ → Type 0
Rising g n = (i : ℕ) → suc i < n → g i < g (suc i)

pub rising-lt : (g : ℕ → ℕ) (n : ℕ) → Rising g n → (i d : ℕ) → i + suc d < n → g i < g (i + suc d)
rising-lt g n r i zero h =
    let e : i + 1 ≡ suc i = omega arith in
    rw e (r i (omega arith))
rising-lt g n r i (suc d) h =
    let a = rising-lt g n r i d (omega arith) in
    let b = r (i + suc d) (omega arith) in
    let e : i + suc (suc d) ≡ suc (i + suc d) = omega arith in
    rw e (omega arith)

pub rising-apart : (g : ℕ → ℕ) (n : ℕ) → Rising g n → Apart g n
rising-apart g n r i j a b q = go (nat_lt i j) refl (nat_lt j i) refl
  where
    go : (x : Bool) → nat_lt i j ≡ x → (y : Bool) → nat_lt j i ≡ y → i ≡ j
    go true h y k =
        let l = ltb-true i j h in
        let e : i + suc (j - suc i) ≡ j = omega arith in
        let s : g i < g j = rw e at (rising-lt g n r i (j - suc i) (omega arith)) in
        never (g i) (omega arith)
    go false h true k =
        let l = ltb-true j i k in
        let e : j + suc (i - suc j) ≡ i = omega arith in
        let s : g j < g i = rw e at (rising-lt g n r j (i - suc j) (omega arith)) in
        never (g i) (omega arith)
    go false h false k =
        let l = ltb-false i j h in
        let m = ltb-false j i k in
        omega arith

pub tested-rising : (g : ℕ → ℕ) (n : ℕ) → all_in (λ i. ltb (g (i - 1)) (g i)) 1 n ≡ true → Rising g n
tested-rising g n h i k =
    let e : suc i - 1 ≡ i = omega arith in
    ltb-true (g i) (g (suc i)) (rw e at (all-at (λ i. ltb (g (i - 1)) (g i)) 1 n h (suc i) (omega arith) k))
