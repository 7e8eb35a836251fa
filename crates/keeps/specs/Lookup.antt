-- What is found in a list by number after one is kept or dropped: one law for variables, constraints and edits. Assumes nothing.
use Rattle.std.specs.Prelude.{◌≡◌, ◌≢◌, Bool, ℕ, ltb}
use Rattle.std.proofs.Math.Path.{refl, sym}
use Rattle.std.proofs.Common.{◌∙◌, subst, arith, eqb→eq}
use Rattle.std.proofs.Math.Bool.{true, false}
use mathlib.Core.List.{List, [], ◌∷◌, map}
use Rattle.std.proofs.Math.Option.{Option, none, some}
use Rattle.std.proofs.Math.Dec.{T, eqb, eqb_refl}
use Rattle.keeps.specs.Lists.{Up, none≢some}
use Rattle.keeps.specs.Keys.{keep_by, drop_by, find_by, find-times, drop-gone}

pub eq_no : (m n : ℕ) → m ≢ n → eqb m n ≡ false
eq_no m n h = go (eqb m n) refl
  where
    go : (b : Bool) → eqb m n ≡ b → eqb m n ≡ false
    go true e = absurd (h (eqb→eq m n (subst T (sym e) tt)))
    go false e = e

pub eq_yes : (n : ℕ) → eqb n n ≡ true
eq_yes n = go (eqb n n) (eqb_refl n)
  where
    go : (b : Bool) → T b → b ≡ true
    go true t = refl
    go false t = absurd t

module _ {A : Type 0} (key : A → ℕ) where
  hit : (n : ℕ) (x : A) (xs : List A) → eqb n (key x) ≡ true → find_by key n (x ∷ xs) ≡ some x
  unfolding find_by
  hit n x xs e = rw (e, find_by) refl

  miss : (n : ℕ) (x : A) (xs : List A) → eqb n (key x) ≡ false → find_by key n (x ∷ xs) ≡ find_by key n xs
  unfolding find_by
  miss n x xs e = rw (e, find_by) refl

  pub find-keep-other : (n : ℕ) (r : A) (xs : List A) → n ≢ key r → find_by key n (keep_by key r xs) ≡ find_by key n xs
  unfolding keep_by
  find-keep-other n r [] h = miss n r [] (eq_no n (key r) h)
  find-keep-other n r (x ∷ xs) h = go (ltb (key r) (key x)) (eqb n (key x)) refl (find-keep-other n r xs h)
    where
      go : (t e : Bool) → eqb n (key x) ≡ e → find_by key n (keep_by key r xs) ≡ find_by key n xs → find_by key n (elim t [ true ↦ r ∷ x ∷ xs | false ↦ x ∷ keep_by key r xs ]) ≡ find_by key n (x ∷ xs)
      go true e q ih = miss n r (x ∷ xs) (eq_no n (key r) h)
      go false true q ih = hit n x (keep_by key r xs) q ∙ sym (hit n x xs q)
      go false false q ih = miss n x (keep_by key r xs) q ∙ ih ∙ sym (miss n x xs q)

  pub find-keep-same : (n : ℕ) (r : A) (xs : List A) → n ≡ key r → find_by key n xs ≡ none → find_by key n (keep_by key r xs) ≡ some r
  unfolding keep_by
  find-keep-same n r [] h f = hit n r [] (subst (λ (m : ℕ). eqb n m ≡ true) h (eq_yes n))
  find-keep-same n r (x ∷ xs) h f = go (ltb (key r) (key x)) (eqb n (key x)) refl (find-keep-same n r xs h)
    where
      go : (t e : Bool) → eqb n (key x) ≡ e → (find_by key n xs ≡ none → find_by key n (keep_by key r xs) ≡ some r) → find_by key n (elim t [ true ↦ r ∷ x ∷ xs | false ↦ x ∷ keep_by key r xs ]) ≡ some r
      go true e q ih = hit n r (x ∷ xs) (subst (λ (m : ℕ). eqb n m ≡ true) h (eq_yes n))
      go false true q ih = absurd (none≢some (sym f ∙ hit n x xs q))
      go false false q ih = miss n x (keep_by key r xs) q ∙ ih (sym (miss n x xs q) ∙ f)

  pub find-drop-other : (n m : ℕ) (xs : List A) → n ≢ m → find_by key n (drop_by key m xs) ≡ find_by key n xs
  unfolding drop_by
  find-drop-other n m [] h = refl
  find-drop-other n m (x ∷ xs) h = go (eqb m (key x)) refl (eqb n (key x)) refl (find-drop-other n m xs h)
    where
      go : (t : Bool) → eqb m (key x) ≡ t → (e : Bool) → eqb n (key x) ≡ e → find_by key n (drop_by key m xs) ≡ find_by key n xs → find_by key n (elim t [ true ↦ xs | false ↦ x ∷ drop_by key m xs ]) ≡ find_by key n (x ∷ xs)
      go true p e q ih = sym (miss n x xs (eq_no n (key x) (λ z. h (z ∙ sym (eqb→eq m (key x) (subst T (sym p) tt))))))
      go false p true q ih = hit n x (drop_by key m xs) q ∙ sym (hit n x xs q)
      go false p false q ih = miss n x (drop_by key m xs) q ∙ ih ∙ sym (miss n x xs q)

  pub find-drop-same : (n : ℕ) (xs : List A) → Up 0 (map key xs) → find_by key n (drop_by key n xs) ≡ none
  find-drop-same n xs u = go (find_by key n (drop_by key n xs)) refl
    where
      go : (o : Option A) → find_by key n (drop_by key n xs) ≡ o → find_by key n (drop_by key n xs) ≡ none
      go none e = e
      go (some x) e = absurd (omega (arith, find-times key n (drop_by key n xs) x e, drop-gone key 0 n xs u))
