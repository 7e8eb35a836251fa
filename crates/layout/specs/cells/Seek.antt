-- The first place that passes a test: all there is to know of it, and when two searches find the same.
-- Assumes nothing.
use Prim.Native.Nat.{ℕ, zero, suc, ◌+◌, ◌-◌, ◌≤◌, ◌<◌}
use Rattle.std.specs.Prelude.{◌≡◌, Bool, cond, T, eqb, ltb}
use Rattle.std.proofs.Math.Path.{refl, subst}
use Rattle.std.proofs.Common.{sym, ap, ◌∙◌, add-zero, ltb-true, ltb-false, eqb-true}
use Rattle.std.proofs.Math.Bool.{true, false}
use native.Mathlib.Omega.{arith}
use Rattle.std.proofs.lemmas.Bool.{eqb-false}
use Rattle.laws.specs.Loops.{turns, run, seek, first}

pub clash : {b : Bool} → b ≡ true → b ≡ false → ⊥
clash h k = subst T (sym h ∙ k) tt

-- no place from i up to r passes
abbrev pub Fails : (ℕ → Bool) → ℕ → ℕ → Type 0
Fails p i r = (j : ℕ) → i ≤ j → j < r → p j ≡ false

module _ {R : Type 0} (p : ℕ → Bool) (at : ℕ → R) (none : R) where
  fails_more : (i r : ℕ) → p i ≡ false → Fails p (suc i) r → Fails p i r
  fails_more i r q f j a b = go (eqb i j) refl
    where
      go : (t : Bool) → eqb i j ≡ t → p j ≡ false
      go true e = subst (λ (z : ℕ). p z ≡ false) (eqb-true i j e) q
      go false e =
          let d = ltb-of i j a (eqb-false i j e) in
          f j d b
        where
          ltb-of : (i j : ℕ) → i ≤ j → (i ≡ j → ⊥) → i < j
          ltb-of i j a n = omega arith

  seek-elim : (P : R → Type 0) (n i : ℕ) → ((r : ℕ) → i ≤ r → r < i + n → p r ≡ true → Fails p i r → P (at r)) → (Fails p i (i + n) → P none) → P (seek p at none n i)
  unfolding seek
  seek-elim P zero i f g = g λ j a b. absurd (omega arith)
  seek-elim P (suc n) i f g =
      go (p i) refl λ q.
      let e : suc i + n ≡ i + suc n = omega arith in
      seek-elim P n (suc i) (λ r a b t h. f r (omega arith) (omega arith) t (fails_more i r q h)) λ h.
      g (fails_more i (i + suc n) q (subst (λ (z : ℕ). Fails p (suc i) z) e h))
    where
      go : (b : Bool) → p i ≡ b → (p i ≡ false → P (seek p at none n (suc i))) → P (cond b (at i) (seek p at none n (suc i)))
      go true q r = f i (omega arith) (omega arith) q λ j a b. absurd (omega arith)
      go false q r = r q

  pub first-elim : (P : R → Type 0) (i e : ℕ) → i ≤ e → ((r : ℕ) → i ≤ r → r < e → p r ≡ true → Fails p i r → P (at r)) → (Fails p i e → P none) → P (first p at none i e)
  unfolding first
  first-elim P i e h f g =
      let q : i + (e - i) ≡ e = omega arith in
      seek-elim P (e - i) i (λ r a b t k. f r a (omega arith) t k) λ k. g (subst (λ (z : ℕ). Fails p i z) q k)

  pub first-none : (i e : ℕ) → i ≤ e → Fails p i e → first p at none i e ≡ none
  first-none i e h f = first-elim (λ (z : R). z ≡ none) i e h (λ r a b t k. absurd (clash t (f r a b))) λ _. refl

  pub first-at : (i e r : ℕ) → i ≤ r → r < e → p r ≡ true → Fails p i r → first p at none i e ≡ at r
  first-at i e r a b t f =
      first-elim (λ (z : R). z ≡ at r) i e (omega arith)
      (λ q c d u k. ap at (one q (λ l. clash u (f q c l)) λ l. clash t (k r a l)))
      λ k. absurd (clash t (k r a b))
    where
      one : (q : ℕ) → (q < r → ⊥) → (r < q → ⊥) → q ≡ r
      one q f g = omega arith

-- the same search in a wider range, where nothing passes outside the narrow one
pub first-within : {R : Type 0} (p q : ℕ → Bool) (f g : ℕ → R) (none : R) (a b e z : ℕ) → a ≤ b → b ≤ e → e ≤ z
    → ((j : ℕ) → b ≤ j → j < e → p j ≡ q j) → ((j : ℕ) → b ≤ j → j < e → f j ≡ g j) → Fails p a b → Fails p e z → first p f none a z ≡ first q g none b e
first-within {R} p q f g none a b e z h k l s t u v =
    first-elim q g none (λ (y : R). first p f none a z ≡ y) b e k
    (λ r c d w x. first-at p f none a z r (omega arith) (omega arith) (s r c d ∙ w) (λ j m n. before r d x j m n (ltb j b) refl) ∙ t r c d)
    λ x. first-none p f none a z (omega arith) λ j m n. all x j m n (ltb j b) refl (ltb j e) refl
  where
    before : (r : ℕ) → r < e → Fails q b r → (j : ℕ) → a ≤ j → j < r → (c : Bool) → ltb j b ≡ c → p j ≡ false
    before r d x j m n true w = u j m (ltb-true j b w)
    before r d x j m n false w = let i : b ≤ j = ltb-false j b w in s j i (omega arith) ∙ x j i n

    all : Fails q b e → (j : ℕ) → a ≤ j → j < z → (c : Bool) → ltb j b ≡ c → (d : Bool) → ltb j e ≡ d → p j ≡ false
    all x j m n true w d y = u j m (ltb-true j b w)
    all x j m n false w true y = let i : b ≤ j = ltb-false j b w in s j i (ltb-true j e y) ∙ x j i (ltb-true j e y)
    all x j m n false w false y = v j (ltb-false j e y) n

-- the same search in elements that stand elsewhere
seek-moved : {R : Type 0} (p q : ℕ → Bool) (f g : ℕ → R) (none : R) (m a b : ℕ) → ((j : ℕ) → j < m → p (a + j) ≡ q (b + j)) → ((j : ℕ) → j < m → f (a + j) ≡ g (b + j)) → seek p f none m a ≡ seek q g none m b
unfolding seek
seek-moved p q f g none zero a b s t = refl
seek-moved {R} p q f g none (suc m) a b s t =
    let e₁ : p a ≡ q b = rw (add-zero a, add-zero b) at (s 0 (omega arith)) in
    let e₂ : f a ≡ g b = rw (add-zero a, add-zero b) at (t 0 (omega arith)) in
    let e₃ : seek p f none m (suc a) ≡ seek q g none m (suc b) =
    seek-moved p q f g none m (suc a) (suc b)
    (λ j h. let u : suc a + j ≡ a + suc j = omega arith in let v : suc b + j ≡ b + suc j = omega arith in rw (u, v) (s (suc j) (omega arith)))
    λ j h. let u : suc a + j ≡ a + suc j = omega arith in let v : suc b + j ≡ b + suc j = omega arith in rw (u, v) (t (suc j) (omega arith)) in
    rw (e₁, e₂, e₃)

pub first-moved : {R : Type 0} (p q : ℕ → Bool) (f g : ℕ → R) (none : R) (m a b : ℕ) → ((j : ℕ) → j < m → p (a + j) ≡ q (b + j)) → ((j : ℕ) → j < m → f (a + j) ≡ g (b + j)) → first p f none a (a + m) ≡ first q g none b (b + m)
unfolding first
first-moved p q f g none m a b s t =
    let u : a + m - a ≡ m = omega arith in
    let v : b + m - b ≡ m = omega arith in
    rw (u, v) (seek-moved p q f g none m a b s t)

-- what each turn of a counted loop keeps, by its place
module _ {S : Type 0} where
  turns-keep : (I : ℕ → S → Type 0) (g : ℕ → S → S) (n i : ℕ) (s : S) → ((j : ℕ) (t : S) → i ≤ j → j < i + n → I j t → I (suc j) (g j t)) → I i s → I (i + n) (turns g n i s)
  unfolding turns
  turns-keep I g zero i s k h = subst (λ (z : ℕ). I z s) (sym (add-zero i)) h
  turns-keep I g (suc n) i s k h =
      let e : suc i + n ≡ i + suc n = omega arith in
      subst (λ (z : ℕ). I z (turns g n (suc i) (g i s))) e (turns-keep I g n (suc i) (g i s) (λ j t a b. k j t (omega arith) (omega arith)) (k i s (omega arith) (omega arith) h))

  pub run-inv : (I : ℕ → S → Type 0) (g : ℕ → S → S) (i e : ℕ) (s : S) → i ≤ e → ((j : ℕ) (t : S) → i ≤ j → j < e → I j t → I (suc j) (g j t)) → I i s → I e (run g i e s)
  unfolding run
  run-inv I g i e s h k b =
      let q : i + (e - i) ≡ e = omega arith in
      subst (λ (z : ℕ). I z (turns g (e - i) i s)) q (turns-keep I g (e - i) i s (λ j t a c. k j t a (omega arith)) b)
