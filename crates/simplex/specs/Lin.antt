-- Rows and assignments are functions from columns to ℤ; column 0 is the constant's. Dot products over the columns below n. Assumes nothing.
use Rattle.std.specs.Prelude.{◌≡◌, refl, ◌⊎◌, ◌≢◌, [], ◌∷◌, ℕ, zero, suc, ◌≤◌, ◌<◌, Bool, true, false, cond, T, eqb, ℤ, ◌+ℤ◌, ◌*ℤ◌}
use Rattle.std.proofs.Common.{sym, ap, ◌∙◌, subst, inl, inr, le_refl, le_of_lt, arith, eqb→eq}
use Rattle.std.proofs.Math.Dec.{eqb_refl}
use Rattle.laws.specs.Z.{◌≼◌, ◌≺◌}
use Rattle.laws.specs.Ring.{ring, v, k, ◌⊞◌, ◌⊠◌}
use Rattle.simplex.specs.Ord.{0ℤ, 1ℤ, ≼_refl, add-nonneg, add-neg, ≺-irrefl}

abbrev pub Vec : Type 0
Vec = ℕ → ℤ

-- ---- the unit row
unfoldable pub δ : ℕ → Vec
δ i j = cond (eqb i j) 1ℤ 0ℤ

pub data Same? (i j : ℕ) : Type 0 where
  same : i ≡ j → δ i j ≡ 1ℤ → Same? i j
  other : i ≢ j → δ i j ≡ 0ℤ → Same? i j

pub same? : (i j : ℕ) → Same? i j
unfolding δ
same? i j = go (eqb i j) refl
  where
    go : (b : Bool) → eqb i j ≡ b → Same? i j
    go true e = same (eqb→eq i j (subst T (sym e) tt)) (ap (λ (b : Bool). cond b 1ℤ 0ℤ) e)
    go false e = other (λ p. subst T e (subst (λ (x : ℕ). T (eqb i x)) p (eqb_refl i))) (ap (λ (b : Bool). cond b 1ℤ 0ℤ) e)

pub δ-same : (i : ℕ) → δ i i ≡ 1ℤ
δ-same i = go (same? i i)
  where
    go : Same? i i → δ i i ≡ 1ℤ
    go (same p e) = e
    go (other p e) = absurd (p refl)

pub δ-other : {i j : ℕ} → i ≢ j → δ i j ≡ 0ℤ
δ-other {i} {j} h = go (same? i j)
  where
    go : Same? i j → δ i j ≡ 0ℤ
    go (same p e) = absurd (h p)
    go (other p e) = e

-- ---- the dot product over the columns 0 .. n - 1
unfoldable pub dot : ℕ → Vec → Vec → ℤ
dot zero r σ = 0ℤ
dot (suc n) r σ = dot n r σ +ℤ r n *ℤ σ n

-- r + c w, by columns
abbrev pub plus : Vec → ℤ → Vec → Vec
plus r c w = λ j. r j +ℤ c *ℤ w j

pub dot-plus : (n : ℕ) (r : Vec) (c : ℤ) (w σ : Vec) → dot n (plus r c w) σ ≡ dot n r σ +ℤ c *ℤ dot n w σ
unfolding dot
dot-plus zero r c w σ = ring (c ∷ []) (k 0ℤ) (k 0ℤ ⊞ v 0 ⊠ k 0ℤ) tt
dot-plus (suc n) r c w σ =
    ap (λ z. z +ℤ (r n +ℤ c *ℤ w n) *ℤ σ n) (dot-plus n r c w σ)
    ∙ ring (dot n r σ ∷ c ∷ dot n w σ ∷ r n ∷ w n ∷ σ n ∷ []) ((v 0 ⊞ v 1 ⊠ v 2) ⊞ (v 3 ⊞ v 1 ⊠ v 4) ⊠ v 5) ((v 0 ⊞ v 3 ⊠ v 5) ⊞ v 1 ⊠ (v 2 ⊞ v 4 ⊠ v 5)) tt

pub dot-cong : (n : ℕ) (r σ s τ : Vec) → ((j : ℕ) → j < n → r j *ℤ σ j ≡ s j *ℤ τ j) → dot n r σ ≡ dot n s τ
unfolding dot
dot-cong zero r σ s τ h = refl
dot-cong (suc n) r σ s τ h =
    ap (λ z. z +ℤ r n *ℤ σ n) (dot-cong n r σ s τ (λ j l. h j (omega arith))) ∙ ap (λ z. dot n s τ +ℤ z) (h n (le_refl (suc n)))

-- the unit row picks a column
past : (n l : ℕ) (σ : Vec) → n ≤ l → dot n (δ l) σ ≡ 0ℤ
unfolding dot
past zero l σ h = refl
past (suc n) l σ h =
    ap (λ z. z +ℤ δ l n *ℤ σ n) (past n l σ (le_of_lt h)) ∙ ap (λ z. 0ℤ +ℤ z *ℤ σ n) (δ-other (apart h)) ∙ ring (σ n ∷ []) (k 0ℤ ⊞ k 0ℤ ⊠ v 0) (k 0ℤ) tt
  where
    apart : n < l → l ≢ n
    apart h p = omega arith

pub dot-δ : (n l : ℕ) (σ : Vec) → l < n → dot n (δ l) σ ≡ σ l
unfolding dot
dot-δ zero l σ h = absurd (omega arith)
dot-δ (suc n) l σ h = go (same? l n) (λ m. dot-δ n l σ m)
  where
    go : Same? l n → (l < n → dot n (δ l) σ ≡ σ l) → dot n (δ l) σ +ℤ δ l n *ℤ σ n ≡ σ l
    go (same p e) ih =
        ap (λ z. z +ℤ δ l n *ℤ σ n) (past n l σ (omega arith)) ∙ ap (λ z. 0ℤ +ℤ z *ℤ σ n) e ∙ ring (σ n ∷ []) (k 0ℤ ⊞ k 1ℤ ⊠ v 0) (v 0) tt ∙ ap σ (sym p)
    go (other p e) ih = ap (λ z. z +ℤ δ l n *ℤ σ n) (ih (omega arith)) ∙ ap (λ z. σ l +ℤ z *ℤ σ n) e ∙ ring (σ l ∷ σ n ∷ []) (v 0 ⊞ k 0ℤ ⊠ v 1) (v 0) tt

-- ---- signs
pub dot-nonneg : (n : ℕ) (r σ : Vec) → ((j : ℕ) → j < n → 0ℤ ≼ r j *ℤ σ j) → 0ℤ ≼ dot n r σ
unfolding dot
dot-nonneg zero r σ h = ≼_refl 0ℤ
dot-nonneg (suc n) r σ h = add-nonneg (dot-nonneg n r σ (λ j l. h j (omega arith))) (h n (le_refl (suc n)))

pub dot-neg : (n : ℕ) (r σ : Vec) → dot n r σ ≺ 0ℤ → (j : ℕ) × (j < n) × (r j *ℤ σ j ≺ 0ℤ)
unfolding dot
dot-neg zero r σ h = absurd (≺-irrefl h)
dot-neg (suc n) r σ h = go (add-neg (dot n r σ) (r n *ℤ σ n) h) (dot-neg n r σ)
  where
    go : (dot n r σ ≺ 0ℤ) ⊎ (r n *ℤ σ n ≺ 0ℤ) → (dot n r σ ≺ 0ℤ → (j : ℕ) × (j < n) × (r j *ℤ σ j ≺ 0ℤ)) → (j : ℕ) × (j < suc n) × (r j *ℤ σ j ≺ 0ℤ)
    go (inl q) ih = let t = ih q in (t.0, (omega (arith, t.1)), t.2)
    go (inr q) ih = (n, le_refl (suc n), q)
