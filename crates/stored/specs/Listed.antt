-- A list read out of a table without one of its elements, or with one more: as the steps drop and keep. Laws that know nothing of the solver.
-- Assumes nothing.
use Prim.Native.Nat.{ℕ, zero, suc, ◌+◌, ◌-◌, ◌≤◌, ◌<◌}
use Rattle.std.specs.Prelude.{◌≡◌, refl, Bool, false, List, [], ◌∷◌}
use Rattle.std.proofs.Math.Path.{sym, ap, subst}
use Rattle.std.proofs.Common.{◌∙◌}
use Rattle.std.proofs.Math.Bool.{true}
use Rattle.std.proofs.Math.Nat.{add-zero, zero-add}
use native.Mathlib.Omega.{arith}
use Rattle.laws.specs.Lists.{tab, tab-ext, list_of}
use Rattle.layout.specs.Laying.{tab-from}
use Rattle.stored.specs.Parts.{past, past-low, past-high}

module _ {A : Type 0} where
  next : (f : ℕ → A) (a m : ℕ) → tab (λ k. f (k + 1)) a m ≡ tab f (suc a) m
  next f a m =
      let e : tab (λ k. f (k + 1)) a m ≡ tab (λ k. f (1 + k)) a m = tab-ext _ _ a m (λ j b c. let o : j + 1 ≡ 1 + j = omega arith in ap f o) in
      let o : 1 + a ≡ suc a = omega arith in
      e ∙ (rw o at (tab-from f 1 a m))

  -- ---- without the first that passes

  module _ (d : List A → List A) (p : A → Bool) (here : (x : A) (l : List A) → p x ≡ true → d (x ∷ l) ≡ l) (on : (x : A) (l : List A) → p x ≡ false → d (x ∷ l) ≡ x ∷ d l) where
    dropped-tab : (f : ℕ → A) (j a m : ℕ) → ((i : ℕ) → a ≤ i → i < a + j → p (f i) ≡ false) → p (f (a + j)) ≡ true → d (tab f a (suc (j + m))) ≡ tab (λ k. f (past (a + j) 1 k)) a (j + m)
    unfolding tab
    dropped-tab f zero a m g h =
        let z : a + 0 ≡ a = add-zero a in
        let y : 0 + m ≡ m = zero-add m in
        let h' : p (f a) ≡ true = rw z at h in
        rw (z, y) (here (f a) (tab f (suc a) m) h' ∙ sym (next f a m) ∙ tab-ext _ _ a m (λ i b c. ap f (sym (past-high a 1 i b))))
    dropped-tab f (suc j) a m g h =
        let z : a + suc j ≡ suc a + j = omega arith in
        let r = dropped-tab f j (suc a) m (λ i b c. g i (omega (arith, b)) (omega (arith, c))) (rw z at h) in
        let y : suc j + m ≡ suc (j + m) = omega arith in
        let at_place = λ (q : ℕ). d (tab f a (suc (suc (j + m)))) ≡ tab (λ k. f (past q 1 k)) a (suc (j + m)) in
        rw y (subst at_place (sym z) (on (f a) (tab f (suc a) (suc (j + m))) (g a (omega arith) (omega arith)) ∙ rw r (ap (λ (x : A). x ∷ tab (λ k. f (past (suc a + j) 1 k)) (suc a) (j + m)) (ap f (sym (past-low (suc a + j) 1 a (omega arith)))))))

    pub dropped-listed : (f : ℕ → A) (j n : ℕ) → j < n → ((i : ℕ) → i < j → p (f i) ≡ false) → p (f j) ≡ true → d (list_of n f) ≡ list_of (j + 0 + (n - (j + 1))) (λ k. f (past j 1 k))
    unfolding list_of
    dropped-listed f j n h g q =
        let o : suc (j + (n - (j + 1))) ≡ n = omega (arith, h) in
        let y : j + 0 + (n - (j + 1)) ≡ j + (n - (j + 1)) = omega arith in
        let z : 0 + j ≡ j = zero-add j in
        let r = dropped-tab f j 0 (n - (j + 1)) (λ i b c. g i (omega (arith, c))) (rw z q) in
        rw y (rw (o, z) at r)

  -- ---- with y before the first that passes

  module _ (ins : List A → List A) (y : A) (p : A → Bool) (end : ins [] ≡ y ∷ []) (here : (x : A) (l : List A) → p x ≡ true → ins (x ∷ l) ≡ y ∷ x ∷ l) (on : (x : A) (l : List A) → p x ≡ false → ins (x ∷ l) ≡ x ∷ ins l) where
    kept_here : (g : ℕ → A) (a m : ℕ) → (0 < m → p (g a) ≡ true) → ins (tab g a m) ≡ y ∷ tab g a m
    unfolding tab
    kept_here g a zero q = end
    kept_here g a (suc m) q = here (g a) (tab g (suc a) m) (q (omega arith))

    kept-tab : (g f : ℕ → A) (i a m : ℕ) → ((k : ℕ) → a ≤ k → k < a + i → p (g k) ≡ false) → (0 < m → p (g (a + i)) ≡ true) → ((k : ℕ) → a ≤ k → k < a + (i + m) → f (past (a + i) 1 k) ≡ g k) → f (a + i) ≡ y → ins (tab g a (i + m)) ≡ tab f a (suc (i + m))
    unfolding tab
    kept-tab g f zero a m u v e q =
        let z : a + 0 ≡ a = add-zero a in
        let w : 0 + m ≡ m = zero-add m in
        let v' : 0 < m → p (g a) ≡ true = rw z at v in
        let q' : f a ≡ y = rw z at q in
        let t : tab g a m ≡ tab f (suc a) m =
        tab-ext _ _ a m (λ k b c. sym (e k b (omega (arith, c, w))) ∙ ap f (ap (λ (s : ℕ). past s 1 k) z ∙ past-high a 1 k b)) ∙ next f a m in
        rw (w, q') (kept_here g a m v' ∙ rw t refl)
    kept-tab g f (suc i) a m u v e q =
        let z : a + suc i ≡ suc a + i = omega arith in
        let r = kept-tab g f i (suc a) m (λ k b c. u k (omega (arith, b)) (omega (arith, c))) (rw z at v) (λ k b c. rw z at (e k (omega (arith, b)) (omega (arith, c)))) (rw z at q) in
        let w : suc i + m ≡ suc (i + m) = omega arith in
        let b : f a ≡ g a = ap f (sym (past-low (a + suc i) 1 a (omega arith))) ∙ e a (omega arith) (omega arith) in
        rw (w, b) (on (g a) (tab g (suc a) (i + m)) (u a (omega arith) (omega arith)) ∙ rw r refl)

    pub kept-listed : (g f : ℕ → A) (i n : ℕ) → i ≤ n → ((k : ℕ) → k < i → p (g k) ≡ false) → (i < n → p (g i) ≡ true) → ((k : ℕ) → k < n → f (past i 1 k) ≡ g k) → f i ≡ y → ins (list_of n g) ≡ list_of (i + 1 + (n - i)) f
    unfolding list_of
    kept-listed g f i n h u v e q =
        let o : i + (n - i) ≡ n = omega (arith, h) in
        let w : i + 1 + (n - i) ≡ suc n = omega (arith, h) in
        let z : 0 + i ≡ i = zero-add i in
        let r = kept-tab g f i 0 (n - i) (λ k b c. u k (omega (arith, c))) (λ l. rw z (v (omega (arith, l)))) (λ k b c. rw z (e k (omega (arith, c, o)))) (rw z q) in
        rw w (rw o at r)
