-- Which columns are basic, and that a pivot keeps the tableau's shape; the columns of a tableau as solutions: column 0 is the basic solution, column s the direction in which s grows. Assumes nothing.
use Rattle.std.specs.Prelude.{◌≡◌, refl, ◌≢◌, [], ◌∷◌, ℕ, ◌<◌, Bool, true, false, cond, T, eqb, negsuc, neg_ℤ, ◌+ℤ◌, ◌-ℤ◌, ◌*ℤ◌}
use Rattle.std.proofs.Common.{sym, ap, ◌∙◌, subst, true≢false, eqb→eq}
use Rattle.std.proofs.Math.Dec.{eqb_refl}
use Rattle.laws.specs.Ring.{ring, v, k, ◌⊞◌, ◌⊠◌, ⊟◌, ◌⊟⊟◌}
use Rattle.simplex.specs.Ord.{0ℤ, 1ℤ}
use Rattle.simplex.specs.Lin.{Vec, δ, Same?, same, other, same?, δ-same, δ-other, dot, dot-cong, dot-δ}
use Rattle.simplex.specs.Tab.{Solves, pivoted, pivot}

abbrev pub Mask : Type 0
Mask = ℕ → Bool

pub record Shape (n : ℕ) (B : Mask) (R : ℕ → Vec) : Type 0 where
  pub below : (b : ℕ) → B b ≡ true → b < n
  pub const : B 0 ≡ false
  pub unit : (j : ℕ) → B j ≡ false → (i : ℕ) → R j i ≡ δ j i
  pub gone : (b : ℕ) → B b ≡ true → (j : ℕ) → R j b ≡ 0ℤ

-- a row, such as an objective, that holds no basic column
abbrev pub Clear : Mask → Vec → Type 0
Clear B w = (b : ℕ) → B b ≡ true → w b ≡ 0ℤ

-- ---- e enters, l leaves
unfoldable pub swap : ℕ → ℕ → Mask → Mask
swap l e B j = cond (eqb j e) true (cond (eqb j l) false (B j))

pub data Swapped (l e : ℕ) (B : Mask) (j : ℕ) : Type 0 where
  enters : j ≡ e → swap l e B j ≡ true → Swapped l e B j
  leaves : j ≡ l → swap l e B j ≡ false → Swapped l e B j
  stays : j ≢ e → j ≢ l → swap l e B j ≡ B j → Swapped l e B j

pub swapped : (l e : ℕ) (B : Mask) (j : ℕ) → Swapped l e B j
unfolding swap
swapped l e B j = go (eqb j e) refl (eqb j l) refl
  where
    is : (x : ℕ) → eqb j x ≡ true → j ≡ x
    is x p = eqb→eq j x (subst T (sym p) tt)

    isnt : (x : ℕ) → eqb j x ≡ false → j ≢ x
    isnt x p q = subst T p (subst (λ (y : ℕ). T (eqb j y)) q (eqb_refl j))

    go : (a : Bool) → eqb j e ≡ a → (b : Bool) → eqb j l ≡ b → Swapped l e B j
    go true p b q = enters (is e p) (rw p)
    go false p true q = leaves (is l q) (rw (p, q))
    go false p false q = stays (isnt e p) (isnt l q) (rw (p, q))

clash-bool {ℓ} : {X : Type ℓ} {a : Bool} → a ≡ true → a ≡ false → X
clash-bool p q = absurd (true≢false (sym p ∙ q))

pub apart : (B : Mask) {i j : ℕ} → B i ≡ true → B j ≡ false → i ≢ j
apart B p q e = clash-bool p (ap B e ∙ q)

module _ (n : ℕ) (B : Mask) (R : ℕ → Vec) (S : Shape n B R) (l e : ℕ) (hl : B l ≡ true) (he : B e ≡ false) (in-n : e < n) (one : R l e *ℤ R l e ≡ 1ℤ) where
  -- a row clear of the old basis is clear of the new one after the pivot
  pub pivot-clear : (w : Vec) → Clear B w → Clear (swap l e B) (pivoted l e R w)
  pivot-clear w h b t = go (swapped l e B b)
    where
      go : Swapped l e B b → pivoted l e R w b ≡ 0ℤ
      go (enters p q) =
          ap (pivoted l e R w) p ∙ ap (λ z. w e +ℤ neg_ℤ (w e *ℤ R l e) *ℤ (R l e +ℤ negsuc 0 *ℤ z)) (δ-other (apart B hl he))
          ∙ ring (w e ∷ R l e ∷ []) (v 0 ⊞ (⊟ (v 0 ⊠ v 1)) ⊠ (v 1 ⊞ k (negsuc 0) ⊠ k 0ℤ)) (v 0 ⊟⊟ v 0 ⊠ (v 1 ⊠ v 1)) tt
          ∙ ap (λ z. w e -ℤ w e *ℤ z) one ∙ ring (w e ∷ []) (v 0 ⊟⊟ v 0 ⊠ k 1ℤ) (k 0ℤ) tt
      go (leaves p q) = clash-bool t q
      go (stays p q r) =
          ap (λ z. z +ℤ neg_ℤ (w e *ℤ R l e) *ℤ (R l b +ℤ negsuc 0 *ℤ δ l b)) (h b (sym r ∙ t))
          ∙ ap (λ z. 0ℤ +ℤ neg_ℤ (w e *ℤ R l e) *ℤ (z +ℤ negsuc 0 *ℤ δ l b)) (S.gone b (sym r ∙ t) l)
          ∙ ap (λ z. 0ℤ +ℤ neg_ℤ (w e *ℤ R l e) *ℤ (0ℤ +ℤ negsuc 0 *ℤ z)) (δ-other (λ x. q (sym x)))
          ∙ ring (w e ∷ R l e ∷ []) (k 0ℤ ⊞ (⊟ (v 0 ⊠ v 1)) ⊠ (k 0ℤ ⊞ k (negsuc 0) ⊠ k 0ℤ)) (k 0ℤ) tt

  pub pivot-unit : (j : ℕ) → swap l e B j ≡ false → (i : ℕ) → pivot l e R j i ≡ δ j i
  pivot-unit j t i = go (swapped l e B j)
    where
      go : Swapped l e B j → pivot l e R j i ≡ δ j i
      go (enters p q) = clash-bool q t
      go (leaves p q) =
          ap (λ x. pivot l e R x i) p ∙ ap (λ z. R l i +ℤ neg_ℤ z *ℤ (R l i +ℤ negsuc 0 *ℤ δ l i)) one
          ∙ ring (R l i ∷ δ l i ∷ []) (v 0 ⊞ (⊟ (k 1ℤ)) ⊠ (v 0 ⊞ k (negsuc 0) ⊠ v 1)) (v 1) tt ∙ ap (λ x. δ x i) (sym p)
      go (stays p q r) =
          ap (λ z. R j i +ℤ neg_ℤ (z *ℤ R l e) *ℤ (R l i +ℤ negsuc 0 *ℤ δ l i)) (S.unit j (sym r ∙ t) e ∙ δ-other p)
          ∙ ring (R j i ∷ R l e ∷ R l i ∷ δ l i ∷ []) (v 0 ⊞ (⊟ (k 0ℤ ⊠ v 1)) ⊠ (v 2 ⊞ k (negsuc 0) ⊠ v 3)) (v 0) tt ∙ S.unit j (sym r ∙ t) i

  pub pivot-shape : e ≢ 0 → Shape n (swap l e B) (pivot l e R)
  pivot-shape ne = record {
    below = λ b t. elim (swapped l e B b) [ enters p q ↦ subst (λ (x : ℕ). x < n) (sym p) in-n | leaves p q ↦ clash-bool t q | stays p q r ↦ S.below b (sym r ∙ t) ];
    const = elim (swapped l e B 0) [ enters p q ↦ absurd (ne (sym p)) | leaves p q ↦ q | stays p q r ↦ r ∙ S.const ];
    unit = pivot-unit;
    gone = λ b t j. pivot-clear (R j) (λ c u. S.gone c u j) b t;
  }

-- ---- the columns of a tableau
module _ (n : ℕ) (B : Mask) (R : ℕ → Vec) (S : Shape n B R) (s : ℕ) (hs : B s ≡ false) (in-n : s < n) where
  -- what a row without basic columns is worth in the direction of s: its cell there
  pub at-column : (w : Vec) → Clear B w → dot n w (λ j. R j s) ≡ w s
  at-column w h = dot-cong n w (λ j. R j s) (δ s) w (λ j _. cell j (B j) refl) ∙ dot-δ n s w in-n
    where
      cell : (j : ℕ) (b : Bool) → B j ≡ b → w j *ℤ R j s ≡ δ s j *ℤ w j
      cell j true p = ap (λ z. z *ℤ R j s) (h j p) ∙ ring (R j s ∷ δ s j ∷ []) (k 0ℤ ⊠ v 0) (v 1 ⊠ k 0ℤ) tt ∙ ap (λ z. δ s j *ℤ z) (sym (h j p))
      cell j false p = ap (λ z. w j *ℤ z) (S.unit j p s) ∙ go (same? s j)
        where
          go : Same? s j → w j *ℤ δ j s ≡ δ s j *ℤ w j
          go (same q e) = rw (e, ← q, δ-same s) (ring (w s ∷ []) (v 0 ⊠ k 1ℤ) (k 1ℤ ⊠ v 0) tt)
          go (other q e) = ap (λ z. w j *ℤ z) (δ-other (λ x. q (sym x))) ∙ ring (w j ∷ []) (v 0 ⊠ k 0ℤ) (k 0ℤ ⊠ v 0) tt ∙ ap (λ z. z *ℤ w j) (sym e)

  pub column-solves : Solves n R (λ j. R j s)
  column-solves j h = sym (at-column (R j) (λ b t. S.gone b t j))

pub basic-solves : (n : ℕ) (B : Mask) (R : ℕ → Vec) → Shape n B R → 0 < n → Solves n R (λ j. R j 0)
basic-solves n B R S h = column-solves n B R S 0 S.const h
