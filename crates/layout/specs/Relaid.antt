-- A list laid over a table anew: laws that know nothing of the solver.
-- Assumes nothing.
use Prim.Native.Nat.{ℕ, zero, suc, ◌≤◌, ◌<◌}
use Rattle.std.specs.Prelude.{◌≡◌, length, set}
use Rattle.std.proofs.Math.Path.{refl, sym, ap}
use Rattle.std.proofs.Common.{◌∙◌, not-suc-le-zero, le_of_suc-le-suc, arith}
use mathlib.Core.List.{List, [], ◌∷◌, map}
use Rattle.laws.specs.Loops.{map_in}
use Rattle.laws.specs.Lists.{laid}
use Rattle.layout.specs.Laying.{laid_nil}

module _ {A B : Type 0} where
  -- laid again over the same places, each element on what it makes of any
  pub laid-again : (f : B → A → A) (k l : List B) (m : List A) → length k ≤ length l → ((b c : B) (y : A) → f b (f c y) ≡ f b y) → laid f 0 l (laid f 0 k m) ≡ laid f 0 l m
  unfolding laid
  laid-again f k l [] h q = refl
  laid-again f [] l (y ∷ m) h q = refl
  laid-again f (c ∷ k) [] (y ∷ m) h q = absurd (not-suc-le-zero h)
  laid-again f (c ∷ k) (b ∷ l) (y ∷ m) h q = rw (q b c y, laid-again f k l m (le_of_suc-le-suc h) q) refl

  -- elements changed, and what they write changed with them
  pub laid-map : (f : B → A → A) (g : B → B) (c : A → A) (l : List B) (m : List A) → ((b : B) (y : A) → f (g b) y ≡ c (f b y)) → laid f 0 (map g l) m ≡ map_in c 0 (length l) (laid f 0 l m)
  unfolding laid map_in
  laid-map f g c l [] q = refl
  laid-map f g c [] (y ∷ m) q = refl
  laid-map f g c (b ∷ l) (y ∷ m) q = rw (q b y, laid-map f g c l m q) refl

  pub laid-map-same : (f : B → A → A) (g : B → B) (l : List B) (m : List A) → ((b : B) (y : A) → f (g b) y ≡ f b y) → laid f 0 (map g l) m ≡ laid f 0 l m
  unfolding laid
  laid-map-same f g l [] q = refl
  laid-map-same f g [] (y ∷ m) q = refl
  laid-map-same f g (b ∷ l) (y ∷ m) q = rw (q b y, laid-map-same f g l m q) refl

  -- a store before the places of a list
  pub laid-set : (f : B → A → A) (a : ℕ) (l : List B) (m : List A) (j : ℕ) (x : A) → j < a → laid f a l (set m j x) ≡ set (laid f a l m) j x
  unfolding laid
  laid-set f a l [] j x h = refl
  laid-set f zero l (y ∷ m) j x h = absurd (not-suc-le-zero h)
  laid-set f (suc a) l (y ∷ m) zero x h = refl
  laid-set f (suc a) l (y ∷ m) (suc j) x h = ap (λ (r : List A). y ∷ r) (laid-set f a l m j x (le_of_suc-le-suc h))

module _ {A : Type 0} where
  -- a list with another element at one place
  pub put-set : (l m : List A) (j : ℕ) (x : A) → j < length l → laid (λ y _. y) 0 (set l j x) m ≡ set (laid (λ y _. y) 0 l m) j x
  unfolding laid
  put-set [] m j x h = absurd (not-suc-le-zero h)
  put-set (b ∷ l) [] j x h = refl
  put-set (b ∷ l) (y ∷ m) zero x h = refl
  put-set (b ∷ l) (y ∷ m) (suc j) x h = ap (λ (r : List A). b ∷ r) (put-set l m j x (le_of_suc-le-suc h))

module _ {A B C : Type 0} where
  -- two lists laid over places apart, in either order
  pub laid-past : (f : B → A → A) (g : C → A → A) (a : ℕ) (l : List B) (k : List C) (m : List A) → length k ≤ a → laid f a l (laid g 0 k m) ≡ laid g 0 k (laid f a l m)
  unfolding laid
  laid-past f g a l k [] h = refl
  laid-past f g a l [] (y ∷ m) h = sym (laid_nil g 0 (laid f a l (y ∷ m)))
  laid-past f g zero l (b ∷ k) (y ∷ m) h = absurd (not-suc-le-zero h)
  laid-past f g (suc a) l (b ∷ k) (y ∷ m) h = ap (λ (r : List A). g b y ∷ r) (laid-past f g a l k m (le_of_suc-le-suc h))

-- three lists laid over places apart, and the first of them anew
module _ {A B C D : Type 0} (f : B → A → A) (g : C → A → A) (h : D → A → A) (b e : ℕ) (cs : List C) (es : List D) where
  past-both : (vs : List B) (m : List A) → length vs ≤ b → length vs ≤ e → laid h e es (laid g b cs (laid f 0 vs m)) ≡ laid f 0 vs (laid h e es (laid g b cs m))
  past-both vs m j k = ap (λ (x : List A). laid h e es x) (laid-past g f b cs vs m j) ∙ laid-past h f e es vs (laid g b cs m) k

  pub first-anew : (vs us : List B) (m : List A) → length us ≡ length vs → length vs ≤ b → length vs ≤ e → ((x y : B) (z : A) → f x (f y z) ≡ f x z)
      → laid h e es (laid g b cs (laid f 0 vs m)) ≡ m → laid h e es (laid g b cs (laid f 0 us m)) ≡ laid f 0 us m
  first-anew vs us m n j k q r =
      let rest : List A = laid h e es (laid g b cs m) in
      let whole : laid f 0 vs rest ≡ m = sym (past-both vs m j k) ∙ r in
      past-both us m (omega arith) (omega arith) ∙ sym (laid-again f vs us rest (omega arith) q) ∙ ap (λ (x : List A). laid f 0 us x) whole
