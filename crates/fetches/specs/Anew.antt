-- One of the lists that were laid over a table is laid anew: laws that know nothing of the solver.
-- Assumes nothing.
use Prim.Native.Nat.{ℕ, zero, suc, ◌+◌, ◌≤◌}
use Rattle.std.specs.Prelude.{◌≡◌}
use Rattle.std.proofs.Math.Path.{refl, ap}
use Rattle.std.proofs.Common.{sym, ◌∙◌, suc-add}
use mathlib.Core.List.{List, [], ◌∷◌, map}
use native.Mathlib.Omega.{arith}
use Rattle.std.proofs.Math.ListN.{length}
use Rattle.laws.specs.Loops.{map_in}
use Rattle.laws.specs.Lists.{laid}
use Rattle.layout.specs.Layout.{over}
use Rattle.layout.specs.Relaid.{laid-again, laid-past}
use Rattle.sparse.specs.Stretches.{Stretch, lay}

module _ {A : Type 0} where
  -- two lists over places apart, in either order
  over-past : (a b : ℕ) (l k m : List A) → a + length l ≤ b → over b k (over a l m) ≡ over a l (over b k m)
  unfolding over laid
  over-past a b l k [] h = refl
  over-past zero b l k (y ∷ m) h = laid-past (λ x _. x) (λ x _. x) b k l (y ∷ m) (omega (arith, h))
  over-past (suc a) zero l k (y ∷ m) h = absurd (omega (arith, h))
  over-past (suc a) (suc b) l k (y ∷ m) h = ap (λ (r : List A). y ∷ r) (over-past a b l k m (omega (arith, h)))

  -- the one put last stands
  over-again : (a : ℕ) (l k m : List A) → length l ≤ length k → over a k (over a l m) ≡ over a k m
  unfolding over laid
  over-again a l k [] h = refl
  over-again zero l k (y ∷ m) h = laid-again (λ x _. x) l k (y ∷ m) h (λ b c z. refl)
  over-again (suc a) l k (y ∷ m) h = ap (λ (r : List A). y ∷ r) (over-again a l k m h)

  -- each begins at e or after
  abbrev pub Above : ℕ → List (Stretch A) → Type 0
  Above e [] = Unit {0}
  Above e (s ∷ ss) = (e ≤ s.at) × Above e ss

  lay-past : (ss : List (Stretch A)) (a : ℕ) (l m : List A) → Above (a + length l) ss → lay ss (over a l m) ≡ over a l (lay ss m)
  unfolding lay
  lay-past [] a l m h = refl
  lay-past (s ∷ ss) a l m h = ap (over s.at s.list) (lay-past ss a l m h.1) ∙ over-past a s.at l s.list (lay ss m) h.0

  -- each ends at a or before
  abbrev pub Below : ℕ → List (Stretch A) → Type 0
  Below a [] = Unit {0}
  Below a (s ∷ ss) = (s.at + length s.list ≤ a) × Below a ss

  -- the list after all of them is laid first or last
  pub lay-under : (ss : List (Stretch A)) (a : ℕ) (l m : List A) → Below a ss → over a l (lay ss m) ≡ lay ss (over a l m)
  unfolding lay
  lay-under [] a l m h = refl
  lay-under (s ∷ ss) a l m h = over-past s.at a s.list l (lay ss m) h.0 ∙ ap (over s.at s.list) (lay-under ss a l m h.1)

  -- of a table that has all of them, the list l among them anew
  pub lay-anew : (ss rs : List (Stretch A)) (a : ℕ) (l k m : List A) → Above (a + length l) ss → length k ≡ length l → lay ss (over a l (lay rs m)) ≡ m → lay ss (over a k (lay rs m)) ≡ over a k m
  lay-anew ss rs a l k m h n q =
      let rest : List A = lay ss (lay rs m) in
      let whole : over a l rest ≡ m = sym (lay-past ss a l (lay rs m) h) ∙ q in
      let g : Above (a + length k) ss = rw n h in
      lay-past ss a k (lay rs m) g ∙ sym (over-again a l k rest (omega (arith, n))) ∙ ap (over a k) whole

  -- and l itself changes nothing
  pub over-there : (ss rs : List (Stretch A)) (a : ℕ) (l m : List A) → Above (a + length l) ss → lay ss (over a l (lay rs m)) ≡ m → over a l m ≡ m
  over-there ss rs a l m h q = sym (lay-anew ss rs a l l m h refl q) ∙ q

-- ---- one element over and over

module _ {A B : Type 0} (f : B → A) (x : A) (same : (b : B) → f b ≡ x) where
  from_zero : (l : List B) (m : List A) → laid (λ y _. y) 0 (map f l) m ≡ map_in (λ _. x) 0 (length l) m
  unfolding laid map_in
  from_zero l [] = refl
  from_zero [] (y ∷ m) = refl
  from_zero (b ∷ l) (y ∷ m) = rw (same b, from_zero l m) refl

  pub over-same : (a : ℕ) (l : List B) (m : List A) → over a (map f l) m ≡ map_in (λ _. x) a (a + length l) m
  unfolding over laid map_in
  over-same a l [] = refl
  over-same zero l (y ∷ m) =
      let o : 0 + length l ≡ length l = omega arith in
      rw o (from_zero l (y ∷ m))
  over-same (suc a) l (y ∷ m) = rw (suc-add a (length l)) (ap (λ (r : List A). y ∷ r) (over-same a l m))
