-- A variable found by number: what the steps' `find_variable` makes of the variables that are read.
-- Assumes nothing.
use Prim.Native.Nat.{ℕ, zero, suc, ◌+◌, ◌-◌, ◌≤◌, ◌<◌}
use Rattle.std.specs.Prelude.{◌≡◌, refl, Bool, true, false, cond, List, ltb}
use Rattle.std.proofs.Math.Option.{none, some}
use native.Mathlib.Omega.{arith}
use Rattle.std.proofs.Math.Dec.{eqb}
use Rattle.std.proofs.Math.ListN.{get_or}
use borrow.Author.Tests.{eqb-true, eqb-false, lt-ltb, le-ltb}
use Rattle.laws.specs.Loops.{seek, first}
use Rattle.laws.specs.Lists.{tab, list_of}
use Rattle.steps.specs.Changes.{find_variable}
use Rattle.rows.specs.choose.Choose.{Found}
use Rattle.std.specs.Prelude.{Some, None}
use Rattle.rows.specs.choose.Choose.{on_found}
use Rattle.layout.specs.cells.Seek.{first-elim}
use Rattle.rows.specs.places.Finding.{place_in}
use Rattle.sparse.specs.Places.{variable_count_at, variable_numbers_at}
use Rattle.sparse.specs.Lookup.{place_from}
use Rattle.sparse.specs.Sparse.{Sparse, variable_count, variable_of, read}
use Rattle.variables.specs.Variables.{found_in}

-- the variables as they are read
pub variables-are : (t : Sparse) → (read t).changes.variables ≡ tab (variable_of t) 0 (variable_count t)
unfolding read list_of
variables-are t = refl

found-go : (t : Sparse) (n m i : ℕ) → find_variable n (tab (variable_of t) i m) ≡ on_found (λ v. some (variable_of t v)) none (seek (λ v. eqb n (get_or t.words (variable_numbers_at + v) 0)) Some None m i)
unfolding find_variable tab seek variable_of
found-go t n zero i = refl
found-go t n (suc m) i = go (eqb n (get_or t.words (variable_numbers_at + i) 0)) (found-go t n m (suc i))
  where
    go : (b : Bool) → find_variable n (tab (variable_of t) (suc i) m) ≡ on_found (λ v. some (variable_of t v)) none (seek (λ v. eqb n (get_or t.words (variable_numbers_at + v) 0)) Some None m (suc i))
        → elim b [ true ↦ some (variable_of t i) | false ↦ find_variable n (tab (variable_of t) (suc i) m) ] ≡ on_found (λ v. some (variable_of t v)) none (cond b (Some i) (seek (λ v. eqb n (get_or t.words (variable_numbers_at + v) 0)) Some None m (suc i)))
    go true r = refl
    go false r = r

-- "the live variable of this number"
pub variable-found : (t : Sparse) (n : ℕ) → find_variable n (read t).changes.variables ≡ on_found (λ v. some (variable_of t v)) none (found_in n t.words)
unfolding read list_of found_in first
variable-found t n = let e : variable_count t - 0 ≡ variable_count t = omega arith in rw e (found-go t n (variable_count t) 0)

-- ---- what is known of the place

module _ (n : ℕ) (words : List ℕ) where
  abbrev number : ℕ → ℕ
  number v = get_or words (variable_numbers_at + v) 0

  abbrev count : ℕ
  count = get_or words variable_count_at 0

  Tells : Found → Type 0
  Tells (Some v) = (v < count) × (n ≡ number v)
  Tells None = (j : ℕ) → j < count → n ≡ number j → ⊥

  tells : Tells (found_in n words)
  unfolding found_in Tells
  tells =
      first-elim (λ v. eqb n (number v)) Some None Tells 0 count (omega arith)
      (λ r a b t k. (b, eqb-true n (number r) t))
      λ k j h e. eqb-false n (number j) (k j (omega arith) h) e

  told : {f : Found} → found_in n words ≡ f → Tells f
  told e = rw e at tells

  pub found_at : {v : ℕ} → found_in n words ≡ Some v → (v < count) × (n ≡ number v)
  unfolding Tells
  found_at e = told e

  pub found_none : found_in n words ≡ None → (j : ℕ) → j < count → n ≡ number j → ⊥
  unfolding Tells
  found_none e = told e

-- ---- by the walk's place, as the lookup gives it

on-place : (p : ℕ → Bool) (e k i : ℕ) → i + k ≡ e → seek p Some None k i ≡ cond (ltb (seek p (λ j. j) e k i) e) (Some (seek p (λ j. j) e k i)) None
unfolding seek
on-place p e zero i s = rw (le-ltb e e (omega arith)) refl
on-place p e (suc k) i s = go (p i) (on-place p e k (suc i) (omega (arith, s)))
  where
    go : (b : Bool) → seek p Some None k (suc i) ≡ cond (ltb (seek p (λ j. j) e k (suc i)) e) (Some (seek p (λ j. j) e k (suc i))) None
        → cond b (Some i) (seek p Some None k (suc i)) ≡ cond (ltb (cond b i (seek p (λ j. j) e k (suc i))) e) (Some (cond b i (seek p (λ j. j) e k (suc i)))) None
    go true r = rw (lt-ltb i e (omega (arith, s))) refl
    go false r = r

module _ (n : ℕ) (words : List ℕ) {v : ℕ} (e : v ≡ place_from words variable_numbers_at (get_or words variable_count_at 0) n) where
  by_place : found_in n words ≡ cond (ltb v (get_or words variable_count_at 0)) (Some v) None
  unfolding found_in first place_from place_in
  by_place =
      let k : ℕ = get_or words variable_count_at 0 in
      let q : k - 0 ≡ k = omega arith in
      let w : ℕ → ℕ = λ j. get_or words (variable_numbers_at + j) 0 in
      let e' : v ≡ seek (λ j. eqb n (w j)) (λ j. j) k k 0 = rw q at e in
      rw (q, e') (on-place (λ j. eqb n (w j)) k k 0 (omega arith))

  pub placed_at : v < get_or words variable_count_at 0 → Some v ≡ found_in n words
  placed_at h = rw (by_place, lt-ltb v (get_or words variable_count_at 0) h) refl

  pub placed-nowhere : get_or words variable_count_at 0 ≤ v → None ≡ found_in n words
  placed-nowhere h = rw (by_place, le-ltb v (get_or words variable_count_at 0) h) refl
