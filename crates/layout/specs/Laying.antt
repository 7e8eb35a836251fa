-- A loop that makes place after place anew lays a list there: laws that know nothing of the solver.
-- Assumes nothing.
use Prim.Native.Nat.{ℕ, zero, suc, ◌+◌, ◌-◌, ◌<◌}
use Rattle.std.specs.Prelude.{◌≡◌, set}
use Rattle.std.proofs.Math.Path.{refl, sym, ap}
use Rattle.std.proofs.Common.{◌∙◌, not-suc-le-zero, le_of_suc-le-suc, add-zero, zero-add, suc-add, add-suc}
use mathlib.Core.List.{List, [], ◌∷◌, map}
use native.Mathlib.Omega.{arith}
use Rattle.std.proofs.Math.ListN.{length, get_or}
use Rattle.laws.specs.Loops.{run, turns}
use Rattle.laws.specs.Lists.{tab, list_of, tab-ext, length-tab, get_or-tab, laid}

-- place i is made anew from what stands there
unfoldable pub remade : {A : Type 0} → A → (ℕ → A → A) → ℕ → List A → List A
remade d f i m = set m i (f i (get_or m i d))

module _ {A B : Type 0} where
  pub laid_nil : (f : B → A → A) (a : ℕ) (m : List A) → laid f a [] m ≡ m
  unfolding laid
  laid_nil f a [] = refl
  laid_nil f zero (y ∷ m) = refl
  laid_nil f (suc a) (y ∷ m) = ap (λ (r : List A). y ∷ r) (laid_nil f a m)

  pub laid_cons : (f : B → A → A) (a : ℕ) (b : B) (l : List B) (m : List A) (d : A) → laid f a (b ∷ l) m ≡ laid f (suc a) l (set m a (f b (get_or m a d)))
  unfolding laid
  laid_cons f a b l [] d = refl
  laid_cons f zero b l (y ∷ m) d = refl
  laid_cons f (suc a) b l (y ∷ m) d = ap (λ (r : List A). y ∷ r) (laid_cons f a b l m d)

  turns-laid : (f : B → A → A) (g : ℕ → A → A) (d : A) (e : B) (l : List B) (a : ℕ) (m : List A) → ((j : ℕ) → j < length l → (y : A) → g (a + j) y ≡ f (get_or l j e) y) → turns (remade d g) (length l) a m ≡ laid f a l m
  unfolding turns remade
  turns-laid f g d e [] a m h = sym (laid_nil f a m)
  turns-laid f g d e (b ∷ l) a m h =
      let here : g a (get_or m a d) ≡ f b (get_or m a d) = rw (add-zero a) at (h 0 (omega arith) (get_or m a d)) in
      let rest = turns-laid f g d e l (suc a) (remade d g a m) (λ j k y. rw (suc-add a j) (rw (add-suc a j) at (h (suc j) (omega arith) y))) in
      rest ∙ step here ∙ sym (laid_cons f a b l m d)
    where
      step : g a (get_or m a d) ≡ f b (get_or m a d) → laid f (suc a) l (remade d g a m) ≡ laid f (suc a) l (set m a (f b (get_or m a d)))
      step q = rw q refl

  pub run-laid : (f : B → A → A) (g : ℕ → A → A) (d : A) (e : B) (l : List B) (a z : ℕ) (m : List A) → z ≡ a + length l → ((j : ℕ) → j < length l → (y : A) → g (a + j) y ≡ f (get_or l j e) y) → run (remade d g) a z m ≡ laid f a l m
  unfolding run
  run-laid f g d e l a z m q h =
      let n : z - a ≡ length l = omega arith in
      rw n (turns-laid f g d e l a m h)

module _ {A : Type 0} where
  pub tab-from : (g : ℕ → A) (a i n : ℕ) → tab (λ j. g (a + j)) i n ≡ tab g (a + i) n
  unfolding tab
  tab-from g a i zero = refl
  tab-from g a i (suc n) = ap (λ (r : List A). g (a + i) ∷ r) (rw (add-suc a i) at (tab-from g a (suc i) n))

  pub list_ext : (n : ℕ) (g h : ℕ → A) → ((j : ℕ) → j < n → g j ≡ h j) → list_of n g ≡ list_of n h
  unfolding list_of
  list_ext n g h q = tab-ext g h 0 n λ j a b. q j (omega arith)

-- ---- a stretch of a table, and the rows of a table

module _ {A : Type 0} (d : A) where
  pub stretch : (from l : List A) (a k z : ℕ) (to : List A) → z ≡ a + k → l ≡ tab (λ j. get_or from j d) a k → run (remade d (λ i _. get_or from i d)) a z to ≡ laid (λ x _. x) a l to
  stretch from l a k z to q h =
      let n : length (tab (λ j. get_or from j d) a k) ≡ k = length-tab (λ j. get_or from j d) a k in
      rw h (run-laid (λ x _. x) (λ i _. get_or from i d) d d (tab (λ j. get_or from j d) a k) a z to (rw n q) (λ j b y. sym (get_or-tab (λ i. get_or from i d) a k j d (rw n at b))))

module _ {A B : Type 0} (d : A) where
  pub run-list : (f : B → A → A) (g : ℕ → A → A) (h : ℕ → B) (a k z : ℕ) (m : List A) → z ≡ a + k → ((j : ℕ) → j < k → (y : A) → g (a + j) y ≡ f (h j) y) → run (remade d g) a z m ≡ laid f a (list_of k h) m
  unfolding list_of
  run-list f g h a k z m q r =
      let n : length (tab h 0 k) ≡ k = length-tab h 0 k in
      run-laid f g d (h 0) (tab h 0 k) a z m (rw n q) λ j b y.
      let e : get_or (tab h 0 k) j (h 0) ≡ h j = rw (zero-add j) at (get_or-tab h 0 k j (h 0) (rw n at b)) in
      rw e (r j (rw n at b) y)

-- ---- what stands there already, put there once more

module _ {A : Type 0} (d : A) where
  pub set_same : (m : List A) (i : ℕ) → set m i (get_or m i d) ≡ m
  set_same [] i = refl
  set_same (x ∷ m) zero = refl
  set_same (x ∷ m) (suc i) = ap (λ (r : List A). x ∷ r) (set_same m i)

  pub turns_same : (g : ℕ → A → A) (n i : ℕ) (m : List A) → ((j : ℕ) → g j (get_or m j d) ≡ get_or m j d) → turns (remade d g) n i m ≡ m
  unfolding turns remade
  turns_same g zero i m h = refl
  turns_same g (suc n) i m h = rw (h i, set_same m i) (turns_same g n (suc i) m h)

  pub run-same : (g : ℕ → A → A) (i e : ℕ) (m : List A) → ((j : ℕ) → g j (get_or m j d) ≡ get_or m j d) → run (remade d g) i e m ≡ m
  unfolding run
  run-same g i e m h = turns_same g (e - i) i m h

module _ {A B : Type 0} where
  pub get_d_map : (f : A → B) (l : List A) (i : ℕ) (d : A) (e : B) → i < length l → get_or (map f l) i e ≡ f (get_or l i d)
  get_d_map f [] i d e h = absurd (not-suc-le-zero h)
  get_d_map f (x ∷ l) zero d e h = refl
  get_d_map f (x ∷ l) (suc i) d e h = get_d_map f l i d e (le_of_suc-le-suc h)
