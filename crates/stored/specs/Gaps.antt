-- Lists that stand one after the other around a gap: where each begins. Laws that know nothing of the solver.
-- Assumes nothing.
use Rattle.std.specs.Prelude.{ℕ, zero, suc, ◌+◌, ◌-◌, ◌≤◌, ◌<◌, ◌≡◌, refl, Bool, true, false, ltb}
use Rattle.std.proofs.Common.{sym, ap, ◌∙◌, subst, arith, ltb-true, ltb-false}
use Rattle.laws.specs.Lists.{sum_from, sum_in}
use Rattle.sparse.specs.Concat.{sum-in, sum-le}
use Rattle.stored.specs.declared.parts.Plan.{Plan}
use Rattle.stored.specs.Parts.{past, past-low, past-high, target, size, target_size}
use Rattle.stored.specs.Moved.{sum-split, sum_same}

-- each place afterwards is one of those kept, or of the gap
pub gap-cases : (P : ℕ → Type 0) (p : Plan) → ((k : ℕ) → k < size p → P (target p k)) → ((k : ℕ) → k < p.free → P (p.at + k)) → (j : ℕ) → j < target_size p → P j
gap-cases P p f g j h = go (ltb j p.at) refl (ltb j (p.at + p.free)) refl
  where
    go : (x : Bool) → ltb j p.at ≡ x → (y : Bool) → ltb j (p.at + p.free) ≡ y → P j
    go true q y q' =
        let l = ltb-true j p.at q in
        subst P (past-low p.at p.free j l) (f j (omega (arith, l)))
    go false q true q' =
        let l = ltb-false j p.at q in
        let m = ltb-true j (p.at + p.free) q' in
        let o : p.at + (j - p.at) ≡ j = omega (arith, l) in
        subst P o (g (j - p.at) (omega (arith, l, m)))
    go false q false q' =
        let m = ltb-false j (p.at + p.free) q' in
        let o : j - p.free + p.free ≡ j = omega (arith, m) in
        subst P (past-high p.at p.free (j - p.free) (omega (arith, m)) ∙ o) (f (j - p.free) (omega (arith, m, h)))

-- each of the elements of n lists is the j-th of the k-th
pub sum-cases : (P : ℕ → Type 0) (h : ℕ → ℕ) (n : ℕ) → ((k j : ℕ) → k < n → j < h k → P (sum_in h 0 k + j)) → (x : ℕ) → x < sum_in h 0 n → P x
unfolding sum_in sum_from
sum-cases P h zero f x l = absurd (omega (arith, l))
sum-cases P h (suc n) f x l = go (ltb x (sum_in h 0 n)) refl (sum-cases P h n (λ k j a b. f k j (omega (arith, a)) b) x)
  where
    all : sum_in h 0 n + h n ≡ sum_in h 0 (suc n)
    all =
        let a = sum-split h 0 n (n + 1) (omega arith) (omega arith) in
        let b = one in
        let o : n + 1 ≡ suc n = omega arith in
        let c : sum_in h 0 n + h n ≡ sum_in h 0 (n + 1) = omega (arith, a, b) in
        rw o at c
      where
        one : sum_in h n (n + 1) ≡ h n
        one = let o : n + 1 - n ≡ 1 = omega arith in rw o (omega arith)

    go : (z : Bool) → ltb x (sum_in h 0 n) ≡ z → (x < sum_in h 0 n → P x) → P x
    go true q r = r (ltb-true x (sum_in h 0 n) q)
    go false q r =
        let m = ltb-false x (sum_in h 0 n) q in
        let o : sum_in h 0 n + (x - sum_in h 0 n) ≡ x = omega (arith, m) in
        subst P o (f n (x - sum_in h 0 n) (omega arith) (omega (arith, m, l, all)))

shifted : (h g : ℕ → ℕ) (d a n : ℕ) → ((i : ℕ) → a ≤ i → i < a + n → h i ≡ g (i + d)) → sum_from h a n ≡ sum_from g (a + d) n
unfolding sum_from
shifted h g d a zero f = refl
shifted h g d a (suc n) f =
    let e = f a (omega arith) (omega arith) in
    let r = shifted h g d (suc a) n (λ i b c. f i (omega (arith, b)) (omega (arith, c))) in
    let o : suc a + d ≡ suc (a + d) = omega arith in
    let r' : sum_from h (suc a) n ≡ sum_from g (suc (a + d)) n = rw o at r in
    omega (arith, e, r')

pub sum_shifted : (h g : ℕ → ℕ) (d a k : ℕ) → ((i : ℕ) → a ≤ i → i < k → h i ≡ g (i + d)) → sum_in h a k ≡ sum_in g (a + d) (k + d)
unfolding sum_in
sum_shifted h g d a k f =
    let o : k + d - (a + d) ≡ k - a = omega arith in
    rw o (shifted h g d a (k - a) (λ i b c. f i b (omega (arith, b, c))))

-- h are the counts of the lists kept, g those with a gap of d lists that begins at the a-th; n are kept after it
module _ (h g : ℕ → ℕ) (a d n : ℕ) (same : (k : ℕ) → k < a + n → h k ≡ g (past a d k)) where
  low : (k : ℕ) → k ≤ a → sum_in h 0 k ≡ sum_in g 0 k
  low k l = sum_same h g k (λ i m. same i (omega (arith, l, m)) ∙ ap g (past-low a d i (omega (arith, l, m))))

  high : (k : ℕ) → k ≤ a + n → sum_in h a k ≡ sum_in g (a + d) (k + d)
  high k l = sum_shifted h g d a k (λ i b c. same i (omega (arith, l, c)) ∙ ap g (past-high a d i b))

  pub gap-size : sum_in h 0 (a + n) ≡ sum_in g 0 a + sum_in g (a + d) (a + d + n)
  gap-size =
      let s = sum-split h 0 a (a + n) (omega arith) (omega arith) in
      let l = low a (omega arith) in
      let r = high (a + n) (omega arith) in
      let o : a + n + d ≡ a + d + n = omega arith in
      let r' : sum_in h a (a + n) ≡ sum_in g (a + d) (a + d + n) = rw o at r in
      omega (arith, s, l, r')

  pub gap-total : sum_in g 0 (a + d + n) ≡ sum_in h 0 (a + n) + sum_in g a (a + d)
  gap-total =
      let s = sum-split g 0 a (a + d) (omega arith) (omega arith) in
      let s' = sum-split g 0 (a + d) (a + d + n) (omega arith) (omega arith) in
      let z = gap-size in
      omega (arith, s, s', z)

  pub kept-within : (k j : ℕ) → k < a + n → j < h k → sum_in h 0 k + j < sum_in h 0 (a + n)
  kept-within k j l m = rw (sum-in h k, sum-in h (a + n)) (sum-le h k (a + n) j l m)

  -- the j-th of the k-th list that is kept
  pub gap-sum : (k j : ℕ) → k < a + n → j < h k → sum_in g 0 (past a d k) + j ≡ past (sum_in g 0 a) (sum_in g a (a + d)) (sum_in h 0 k + j)
  gap-sum k j l m = go (ltb k a) refl
    where
      go : (z : Bool) → ltb k a ≡ z → sum_in g 0 (past a d k) + j ≡ past (sum_in g 0 a) (sum_in g a (a + d)) (sum_in h 0 k + j)
      go true q =
          let b = ltb-true k a q in
          let e = low k (omega (arith, b)) in
          let y = same k l ∙ ap g (past-low a d k b) in
          let lt : sum_in g 0 k + j < sum_in g 0 a = rw (sum-in g k, sum-in g a) (sum-le g k a j b (omega (arith, m, y))) in
          rw (past-low a d k b) (sym (past-low (sum_in g 0 a) (sum_in g a (a + d)) (sum_in h 0 k + j) (omega (arith, e, lt)) ∙ ap (λ (x : ℕ). x + j) e))
      go false q =
          let b = ltb-false k a q in
          let s = sum-split h 0 a k (omega arith) b in
          let e = low a (omega arith) in
          let r = high k (omega (arith, l)) in
          let s₁ = sum-split g 0 a (a + d) (omega arith) (omega arith) in
          let s₂ = sum-split g 0 (a + d) (k + d) (omega arith) (omega (arith, b)) in
          let p = past-high (sum_in g 0 a) (sum_in g a (a + d)) (sum_in h 0 k + j) (omega (arith, s, e)) in
          rw (past-high a d k b) (omega (arith, p, s, e, r, s₁, s₂))
