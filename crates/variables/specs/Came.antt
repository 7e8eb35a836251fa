-- One element more in a stretch of a table: what stood from its place on comes one up.
-- Assumes nothing.
use Rattle.std.specs.Prelude.{ℕ, suc, ◌+◌, ◌-◌, ◌≤◌, ◌<◌, ◌≡◌, refl, Bool, true, false, List, eqb, ltb, length, get_or}
use Rattle.std.proofs.Common.{sym, ◌∙◌, subst, arith, ltb-true, ltb-false, eqb-true}
use Rattle.std.proofs.lemmas.Bool.{eqb-false}
use Rattle.rows.specs.moves.Close.{opened}
use Rattle.rows.specs.moves.Moved.{opened-before, opened-at, opened_inside}

-- f is the stretch before, of k elements, and g the one after: y is at place z
pub record Came {A : Type 0} (k z : ℕ) (y : A) (f g : ℕ → A) : Type 0 where
  pub before : (j : ℕ) → j < z → g j ≡ f j
  pub at : g z ≡ y
  pub inside : (j : ℕ) → z ≤ j → j < k → g (suc j) ≡ f j

pub opened-came : {A : Type 0} (l : List A) (b k z : ℕ) (y d : A) → z ≤ k → b + k < length l → Came k z y (λ j. get_or l (b + j) d) (λ j. get_or (opened (b + z) (b + k) y l) (b + j) d)
opened-came l b k z y d low high =
    record {
      before = λ j h. opened-before (b + z) (b + k) y l (omega (arith, low)) high d (b + j) (omega (arith, h));
      at = opened-at (b + z) (b + k) y l (omega (arith, low)) high d;
      inside = λ j h m.
          let e : b + suc j ≡ suc (b + j) = omega arith in
          rw e (opened_inside (b + z) (b + k) y l (omega (arith, low)) high d (b + j) (omega (arith, h)) (omega (arith, m)));
    }

-- a place of the stretch after: before the new one, the new one, or past it
data Spot (k z : ℕ) : ℕ → Type 0 where
  below : {j : ℕ} → j < z → Spot k z j
  here : {j : ℕ} → j ≡ z → Spot k z j
  above : {j : ℕ} (m : ℕ) → j ≡ suc m → z ≤ m → m < k → Spot k z j

spot : (k z j : ℕ) → j < k + 1 → Spot k z j
spot k z j h = go (ltb j z) refl (eqb j z) refl
  where
    go : (b : Bool) → ltb j z ≡ b → (d : Bool) → eqb j z ≡ d → Spot k z j
    go true p d q = below (ltb-true j z p)
    go false p true q = here (eqb-true j z q)
    go false p false q =
        let l = ltb-false j z p in
        let n = eqb-false j z q in
        above {j = j} (j - 1) (omega (arith, l, n)) (omega (arith, l, n)) (omega (arith, l, n, h))

module _ {A : Type 0} {k z : ℕ} {y : A} {f g : ℕ → A} (low : z ≤ k) (c : Came k z y f g) where
  -- with the same elements before and after
  pub came-as : (f₁ g₁ : ℕ → A) → ((j : ℕ) → j ≤ k → f₁ j ≡ f j) → ((j : ℕ) → j ≤ k → g₁ j ≡ g j) → Came k z y f₁ g₁
  came-as f₁ g₁ p q =
      record {
        before = λ j h. q j (omega (arith, h, low)) ∙ c.before j h ∙ sym (p j (omega (arith, h, low)));
        at = q z low ∙ c.at;
        inside = λ j h m. q (suc j) (omega (arith, m)) ∙ c.inside j h m ∙ sym (p j (omega (arith, m)));
      }

  -- what holds of the new element and of those before holds of those after
  pub came-each : (P : A → Type 0) → P y → ((j : ℕ) → j < k → P (f j)) → (j : ℕ) → j < k + 1 → P (g j)
  came-each P new old j h = go (spot k z j h)
    where
      go : Spot k z j → P (g j)
      go (below l) = subst P (sym (c.before j l)) (old j (omega (arith, l, low)))
      go (here e) = subst (λ (x : ℕ). P (g x)) (sym e) (subst P (sym c.at) new)
      go (above m e l n) = subst (λ (x : ℕ). P (g x)) (sym e) (subst P (sym (c.inside m l n)) (old m n))

  -- and of each two, one before the other
  pub came-pairs : (R : A → A → Type 0) → ((i j : ℕ) → i < j → j < k → R (f i) (f j)) → ((j : ℕ) → z ≤ j → j < k → R y (f j)) → ((i : ℕ) → i < z → R (f i) y) → (i j : ℕ) → i < j → j < k + 1 → R (g i) (g j)
  came-pairs R old left right i j o h = go (spot k z i (omega (arith, o, h))) (spot k z j h)
    where
      both : {a b u v : A} → a ≡ u → b ≡ v → R u v → R a b
      both p q r = rw (p, q) r

      at_of : {m : ℕ} → m ≡ z → g m ≡ y
      at_of e = rw e c.at

      past_of : {m : ℕ} (n : ℕ) → m ≡ suc n → z ≤ n → n < k → g m ≡ f n
      past_of n e a b = rw e (c.inside n a b)

      go : Spot k z i → Spot k z j → R (g i) (g j)
      go (below a) (below b) = both (c.before i a) (c.before j b) (old i j o (omega (arith, b, low)))
      go (below a) (here e) = both (c.before i a) (at_of e) (right i a)
      go (below a) (above m e l n) = both (c.before i a) (past_of m e l n) (old i m (omega (arith, a, l)) n)
      go (here d) (below b) = absurd (omega (arith, d, b, o))
      go (here d) (here e) = absurd (omega (arith, d, e, o))
      go (here d) (above m e l n) = both (at_of d) (past_of m e l n) (left m l n)
      go (above p d q r) (below b) = absurd (omega (arith, d, q, b, o))
      go (above p d q r) (here e) = absurd (omega (arith, d, q, e, o))
      go (above p d q r) (above m e l n) = both (past_of p d q r) (past_of m e l n) (old p m (omega (arith, d, e, o)) n)
