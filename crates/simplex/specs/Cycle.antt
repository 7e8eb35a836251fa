-- Masks that change by one column in and one column out: who has left and who has entered, in a stretch that ends as it began. Assumes nothing.
use Rattle.std.specs.Prelude.{◌≡◌, refl, ◌⊎◌, ℕ, zero, suc, ◌≤◌, ◌<◌, Bool, true, false}
use Rattle.std.proofs.Common.{sym, ap, ◌∙◌, subst, inl, inr, le_refl, le_of_lt, eq-or-lt_of_le, arith, true≢false}
use Rattle.std.proofs.Math.Decide.{dec_le}
use Rattle.simplex.specs.Basis.{Mask, swap, Swapped, enters, leaves, stays, swapped}

-- the place of a greatest value
pub greatest : (m : ℕ) (f : ℕ → ℕ) → (p : ℕ) × (p < suc m) × ((i : ℕ) → i < suc m → f i ≤ f p)
greatest zero f = (0, le_refl 1, λ i h. subst (λ (x : ℕ). f x ≤ f 0) (zero_of i h) (le_refl (f 0)))
  where
    zero_of : (i : ℕ) → i < 1 → 0 ≡ i
    zero_of i h = omega arith
greatest (suc m) f = let t = greatest m f in go t (dec_le (f (suc m)) (f t.0))
  where
    last : (i : ℕ) → i < suc (suc m) → (i < suc m) ⊎ (suc m ≡ i)
    last i h = go (eq-or-lt_of_le h)
      where
        go : (suc i ≡ suc (suc m)) ⊎ (suc i < suc (suc m)) → (i < suc m) ⊎ (suc m ≡ i)
        go (inl e) = inr (omega arith)
        go (inr e) = inl (omega arith)

    go : (t : (p : ℕ) × (p < suc m) × ((i : ℕ) → i < suc m → f i ≤ f p)) → Dec (f (suc m) ≤ f t.0) → (p : ℕ) × (p < suc (suc m)) × ((i : ℕ) → i < suc (suc m) → f i ≤ f p)
    go t (yes d) = (t.0, (omega (arith, t.1)), λ i h. old i (last i h))
      where
        old : (i : ℕ) → (i < suc m) ⊎ (suc m ≡ i) → f i ≤ f t.0
        old i (inl h) = t.2 i h
        old i (inr e) = subst (λ (x : ℕ). f x ≤ f t.0) e d
    go t (no d) = (suc m, le_refl (suc (suc m)), λ i h. new i (last i h))
      where
        new : (i : ℕ) → (i < suc m) ⊎ (suc m ≡ i) → f i ≤ f (suc m)
        new i (inl h) = omega (arith, t.2 i h)
        new i (inr e) = subst (λ (x : ℕ). f x ≤ f (suc m)) e (le_refl (f (suc m)))

-- f takes the value j before m
abbrev pub Hit : ℕ → (ℕ → ℕ) → ℕ → Type 0
Hit m f j = (q : ℕ) × (q < m) × (f q ≡ j)

pub le-zero : {x : ℕ} → x ≤ 0 → x ≡ 0
le-zero h = omega arith

-- the masks 0 .. m, and the columns that leave and enter
pub record Flips (m : ℕ) (M : ℕ → Mask) (le en : ℕ → ℕ) : Type 0 where
  pub next : (i : ℕ) → i < m → (j : ℕ) → M (suc i) j ≡ swap (le i) (en i) (M i) j
  pub out : (i : ℕ) → i < m → M i (le i) ≡ true
  pub free : (i : ℕ) → i < m → M i (en i) ≡ false

module _ (m : ℕ) (M : ℕ → Mask) (le en : ℕ → ℕ) (F : Flips m M le en) where
  -- a column whose state changes has left, or entered, in between
  left-between : (j x y : ℕ) → x ≤ y → y ≤ m → M x j ≡ true → M y j ≡ false → Hit m le j
  left-between j x zero l h p q = absurd (true≢false (sym p ∙ ap (λ (i : ℕ). M i j) (le-zero l) ∙ q))
  left-between j x (suc y) l h p q = go (eq-or-lt_of_le l) (M y j) refl (λ a b. left-between j x y a (le_of_lt h) p b)
    where
      by : Swapped (le y) (en y) (M y) j → M y j ≡ true → Hit m le j
      by (enters e t) r = absurd (true≢false (sym t ∙ sym (F.next y h j) ∙ q))
      by (leaves e t) r = (y, h, sym e)
      by (stays e f t) r = absurd (true≢false (sym r ∙ sym t ∙ sym (F.next y h j) ∙ q))

      go : (x ≡ suc y) ⊎ (x < suc y) → (b : Bool) → M y j ≡ b → (x ≤ y → M y j ≡ false → Hit m le j) → Hit m le j
      go (inl e) b r ih = absurd (true≢false (sym p ∙ ap (λ (i : ℕ). M i j) e ∙ q))
      go (inr e) false r ih = ih (omega arith) r
      go (inr e) true r ih = by (swapped (le y) (en y) (M y) j) r

  entered-between : (j x y : ℕ) → x ≤ y → y ≤ m → M x j ≡ false → M y j ≡ true → Hit m en j
  entered-between j x zero l h p q = absurd (true≢false (sym q ∙ sym (ap (λ (i : ℕ). M i j) (le-zero l)) ∙ p))
  entered-between j x (suc y) l h p q = go (eq-or-lt_of_le l) (M y j) refl (λ a b. entered-between j x y a (le_of_lt h) p b)
    where
      by : Swapped (le y) (en y) (M y) j → M y j ≡ false → Hit m en j
      by (enters e t) r = (y, h, sym e)
      by (leaves e t) r = absurd (true≢false (sym q ∙ F.next y h j ∙ t))
      by (stays e f t) r = absurd (true≢false (sym q ∙ F.next y h j ∙ t ∙ r))

      go : (x ≡ suc y) ⊎ (x < suc y) → (b : Bool) → M y j ≡ b → (x ≤ y → M y j ≡ true → Hit m en j) → Hit m en j
      go (inl e) b r ih = absurd (true≢false (sym q ∙ sym (ap (λ (i : ℕ). M i j) e) ∙ p))
      go (inr e) true r ih = ih (omega arith) r
      go (inr e) false r ih = by (swapped (le y) (en y) (M y) j) r

  pub now-basic : (p : ℕ) → p < m → M (suc p) (en p) ≡ true
  now-basic p h = F.next p h (en p) ∙ go (swapped (le p) (en p) (M p) (en p))
    where
      go : Swapped (le p) (en p) (M p) (en p) → swap (le p) (en p) (M p) (en p) ≡ true
      go (enters e t) = t
      go (leaves e t) = absurd (true≢false (sym (F.out p h) ∙ ap (M p) (sym e) ∙ F.free p h))
      go (stays e f t) = absurd (e refl)

  pub now-free : (p : ℕ) → p < m → M (suc p) (le p) ≡ false
  now-free p h = F.next p h (le p) ∙ go (swapped (le p) (en p) (M p) (le p))
    where
      go : Swapped (le p) (en p) (M p) (le p) → swap (le p) (en p) (M p) (le p) ≡ false
      go (enters e t) = absurd (true≢false (sym (F.out p h) ∙ ap (M p) e ∙ F.free p h))
      go (leaves e t) = t
      go (stays e f t) = absurd (f refl)

  module _ (back : (j : ℕ) → M 0 j ≡ M m j) where
    -- a column that is basic at one time and not at another has left, and has entered
    pub has_left : (j x y : ℕ) → x ≤ m → y ≤ m → M x j ≡ true → M y j ≡ false → Hit m le j
    has_left j x y hx hy p q = go (M 0 j) refl
      where
        go : (b : Bool) → M 0 j ≡ b → Hit m le j
        go true r = left-between j 0 y (omega arith) hy r q
        go false r = left-between j x m hx (le_refl m) p (sym (back j) ∙ r)

    pub has-entered : (j x y : ℕ) → x ≤ m → y ≤ m → M x j ≡ true → M y j ≡ false → Hit m en j
    has-entered j x y hx hy p q = go (M 0 j) refl
      where
        go : (b : Bool) → M 0 j ≡ b → Hit m en j
        go false r = entered-between j 0 x (omega arith) hx r p
        go true r = entered-between j y m hy (le_refl m) q (sym (back j) ∙ r)
