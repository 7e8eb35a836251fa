-- Tests of a stretch of a table: its numbers ascend, lie between two bounds, are at most so much.
-- Assumes nothing.
use Prim.Native.Nat.{ℕ, zero, suc, ◌+◌, ◌-◌, ◌≤◌, ◌<◌}
use Rattle.std.specs.Prelude.{◌≡◌, Bool, ◌&&◌, cond, List}
use Rattle.std.proofs.Math.Path.{refl}
use Rattle.std.proofs.Common.{◌∙◌, zero-add}
use Rattle.std.proofs.Math.Bool.{true, false}
use native.Mathlib.Omega.{arith}
use Rattle.std.proofs.Math.Dec.{eqb, leb, ltb}
use Rattle.std.proofs.Math.ListN.{get_or}
use borrow.Author.Tests.{eqb-true, eqb-false, ne_eqb, leb-true, le-leb, ltb-true, ltb-false, lt-ltb}
use Rattle.laws.specs.Lists.{all_from, all_in, sum_from, sum_in, sum_on, sum-last}
use Rattle.layout.specs.Rooms.{both}
use Rattle.rows.specs.places.Finding.{all-at, at_all, rising-lt, tested-rising}
use Rattle.rows.specs.places.Listed.{join, same}

-- ---- a test that counts what fails it: such a loop is run over several places at once

unfoldable pub missed : Bool → ℕ
missed b = cond b 0 1

-- a sum is 0 if all that is added is
module _ (g : ℕ → ℕ) where
  zeros-from : (i n : ℕ) → eqb (sum_from g i n) 0 ≡ all_from (λ j. eqb (g j) 0) i n
  unfolding sum_from all_from
  zeros-from i zero = refl
  zeros-from i (suc n) = go (eqb (g i) 0) refl (zeros-from (suc i) n)
    where
      go : (b : Bool) → eqb (g i) 0 ≡ b → eqb (sum_from g (suc i) n) 0 ≡ all_from (λ j. eqb (g j) 0) (suc i) n → eqb (g i + sum_from g (suc i) n) 0 ≡ b && all_from (λ j. eqb (g j) 0) (suc i) n
      go true e q = rw (eqb-true (g i) 0 e) (rw (zero-add (sum_from g (suc i) n)) q)
      go false e q = ne_eqb (g i + sum_from g (suc i) n) 0 (λ z. let m = eqb-false (g i) 0 e in omega (arith, z, m))

  -- the loop is over
  pub zero-sum : (a i e m : ℕ) → e ≤ i → sum_on g i e m ≡ sum_in g a e → eqb m 0 ≡ all_in (λ j. eqb (g j) 0) a e
  unfolding sum_in all_in
  zero-sum a i e m h q = rw (sum-last g i e m h q) (zeros-from a (e - a))

module _ (p : ℕ → Bool) where
  none_from : (i n : ℕ) → all_from (λ j. eqb (missed (p j)) 0) i n ≡ all_from p i n
  unfolding all_from missed
  none_from i zero = refl
  none_from i (suc n) = rw (none_from (suc i) n) (go (p i))
    where
      go : (b : Bool) → eqb (cond b 0 1) 0 && all_from p (suc i) n ≡ b && all_from p (suc i) n
      go true = refl
      go false = refl

  pub none-missed : (a i e m : ℕ) → e ≤ i → sum_on (λ j. missed (p j)) i e m ≡ sum_in (λ j. missed (p j)) a e → eqb m 0 ≡ all_in p a e
  unfolding all_in
  none-missed a i e m h q = zero-sum (λ j. missed (p j)) a i e m h q ∙ none_from a (e - a)

-- the n numbers from place a on ascend
unfoldable pub ascend_in : List ℕ → ℕ → ℕ → Bool
ascend_in l a n = all_in (λ i. ltb (get_or l (a + (i - 1)) 0) (get_or l (a + i) 0)) 1 n

-- they are at least low, and below high
unfoldable pub between_in : List ℕ → ℕ → ℕ → ℕ → ℕ → Bool
between_in l a n low high = all_in (λ i. leb low (get_or l (a + i) 0) && ltb (get_or l (a + i) 0) high) 0 n

-- they ascend, so that the first and the last tell that all lie between the bounds
unfoldable pub up_in : List ℕ → ℕ → ℕ → ℕ → ℕ → Bool
up_in l a n low high = ascend_in l a n && between_in l a n low high

-- they are at most so much
unfoldable pub most_in : List ℕ → ℕ → ℕ → ℕ → Bool
most_in l a n most = all_in (λ i. leb (get_or l (a + i) 0) most) 0 n

-- none is 0
unfoldable pub above_zero_in : List ℕ → ℕ → ℕ → Bool
above_zero_in l a n = all_in (λ i. ltb 0 (get_or l (a + i) 0)) 0 n

module _ (l : List ℕ) (a n : ℕ) where
  pub ascends : ascend_in l a n ≡ true → (i j : ℕ) → i < j → j < n → get_or l (a + i) 0 < get_or l (a + j) 0
  unfolding ascend_in
  ascends h i j k m =
      let o : i + suc (j - suc i) ≡ j = omega (arith, k) in
      rw o at (rising-lt (λ i. get_or l (a + i) 0) n (tested-rising (λ i. get_or l (a + i) 0) n h) i (j - suc i) (omega (arith, k, m)))

  pub in-ascend : ((i j : ℕ) → i < j → j < n → get_or l (a + i) 0 < get_or l (a + j) 0) → ascend_in l a n ≡ true
  unfolding ascend_in
  in-ascend f = at_all _ 1 n λ j u k. lt-ltb (get_or l (a + (j - 1)) 0) (get_or l (a + j) 0) (f (j - 1) j (omega (arith, u)) k)

  pub between : (low high : ℕ) → between_in l a n low high ≡ true → (j : ℕ) → j < n → (low ≤ get_or l (a + j) 0) × (get_or l (a + j) 0 < high)
  unfolding between_in
  between low high h j k =
      let q = both _ _ (all-at (λ i. leb low (get_or l (a + i) 0) && ltb (get_or l (a + i) 0) high) 0 n h j (omega arith) k) in
      (leb-true low (get_or l (a + j) 0) q.0, ltb-true (get_or l (a + j) 0) high q.1)

  pub in_between : (low high : ℕ) → ((j : ℕ) → j < n → (low ≤ get_or l (a + j) 0) × (get_or l (a + j) 0 < high)) → between_in l a n low high ≡ true
  unfolding between_in
  in_between low high f = at_all _ 0 n λ j u k. join (le-leb low (get_or l (a + j) 0) (f j k).0) (lt-ltb (get_or l (a + j) 0) high (f j k).1)

  pub most : (b : ℕ) → most_in l a n b ≡ true → (j : ℕ) → j < n → get_or l (a + j) 0 ≤ b
  unfolding most_in
  most b h j k = leb-true (get_or l (a + j) 0) b (all-at (λ i. leb (get_or l (a + i) 0) b) 0 n h j (omega arith) k)

  pub in-most : (b : ℕ) → ((j : ℕ) → j < n → get_or l (a + j) 0 ≤ b) → most_in l a n b ≡ true
  unfolding most_in
  in-most b f = at_all _ 0 n λ j u k. le-leb (get_or l (a + j) 0) b (f j k)

  pub between-most : (b : ℕ) → between_in l a n 0 (suc b) ≡ true → most_in l a n b ≡ true
  between-most b h = in-most b λ j k. let q = (between 0 (suc b) h j k).1 in omega (arith, q)

  pub most-between : (b : ℕ) → most_in l a n b ≡ true → between_in l a n 0 (suc b) ≡ true
  most-between b h = in_between 0 (suc b) λ j k. let q = most b h j k in (omega arith, omega (arith, q))

  pub none-up : (low high : ℕ) → n ≡ 0 → true ≡ up_in l a n low high
  unfolding up_in ascend_in between_in all_in all_from
  none-up low high e = rw e refl

  pub ends-up : (low high : ℕ) {x : Bool} → (n ≡ 0 → ⊥) → x ≡ ascend_in l a n → (x && leb low (get_or l a 0) && ltb (get_or l (a + (n - 1)) 0) high) ≡ up_in l a n low high
  unfolding up_in
  ends-up low high some e = rw e (same _ _ within (λ h. let q = both _ _ h in ends q.0 q.1))
    where
      first-at : a + 0 ≡ a
      first-at = omega arith

      within : (ascend_in l a n && leb low (get_or l a 0) && ltb (get_or l (a + (n - 1)) 0) high) ≡ true → (ascend_in l a n && between_in l a n low high) ≡ true
      within h =
          let p = both _ _ h in
          let q = both _ _ p.0 in
          let up = ascends q.0 in
          let least = leb-true low (get_or l a 0) q.1 in
          let greatest = ltb-true (get_or l (a + (n - 1)) 0) high p.1 in
          join q.0 (in_between low high λ j k. (above up least j k, below up greatest j k (ltb j (n - 1)) refl))
        where
          above : ((i j : ℕ) → i < j → j < n → get_or l (a + i) 0 < get_or l (a + j) 0) → low ≤ get_or l a 0 → (j : ℕ) → j < n → low ≤ get_or l (a + j) 0
          above up least zero k = rw first-at least
          above up least (suc j) k = let q : get_or l a 0 < get_or l (a + suc j) 0 = rw first-at at (up 0 (suc j) (omega arith) k) in omega (arith, least, q)

          below : ((i j : ℕ) → i < j → j < n → get_or l (a + i) 0 < get_or l (a + j) 0) → get_or l (a + (n - 1)) 0 < high → (j : ℕ) → j < n → (b : Bool) → ltb j (n - 1) ≡ b → get_or l (a + j) 0 < high
          below up greatest j k true c = let q = up j (n - 1) (ltb-true j (n - 1) c) (omega (arith, k)) in omega (arith, greatest, q)
          below up greatest j k false c =
              let m = ltb-false j (n - 1) c in
              let o : n - 1 ≡ j = omega (arith, k, m) in
              rw o at greatest

      ends : ascend_in l a n ≡ true → between_in l a n low high ≡ true → (ascend_in l a n && leb low (get_or l a 0) && ltb (get_or l (a + (n - 1)) 0) high) ≡ true
      ends u b =
          let z : low ≤ get_or l a 0 = rw first-at at (between low high b 0 (omega (arith, some))).0 in
          join (join u (le-leb low (get_or l a 0) z)) (lt-ltb (get_or l (a + (n - 1)) 0) high (between low high b (n - 1) (omega (arith, some))).1)
