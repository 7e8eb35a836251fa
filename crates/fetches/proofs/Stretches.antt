-- What a stretch of a list is after `fill` and after `copy_from_slice`.
use Prim.Native.Nat.{ℕ, zero, suc, ◌+◌, ◌≤◌}
use mathlib.Core.Path.{◌≡◌, refl, sym, ap, ◌∙◌}
use mathlib.Core.List.{List, [], ◌∷◌, ◌++◌}
use native.Mathlib.Omega.{arith}
use borrow.Rule.Slice.PartMut.{put_mid, mid_of}
use lib.ListN.{length, take, drop, get_or, replicate}
use Rattle.laws.specs.Loops.{map_in}
use Rattle.laws.specs.Lists.{list_of, list_of-is}
use Rattle.layout.specs.Layout.{term_room}
use Rattle.fetches.specs.shown.Filled.{filled}
use Rattle.std.proofs.Common.{not-suc-le-zero, le_of_suc-le-suc}
use Rattle.std.proofs.lemmas.List.{drop-replicate, get_or-take, get_or-drop, length-take-le, length-drop}

module _ {A : Type 0} (y : A) where
  pub filled_in : (a n e : ℕ) (l : List A) → a + n ≡ e → e ≤ length l → take a l ++ (replicate n y ++ drop n (drop a l)) ≡ map_in (λ _. y) a e l
  unfolding map_in
  filled_in zero zero zero [] q h = refl
  filled_in zero zero zero (x ∷ l) q h = refl
  filled_in zero (suc n) zero l q h = absurd (omega (arith, q))
  filled_in zero zero (suc e) l q h = absurd (omega (arith, q))
  filled_in zero (suc n) (suc e) [] q h = absurd (not-suc-le-zero h)
  filled_in zero (suc n) (suc e) (x ∷ l) q h = ap (λ (r : List A). y ∷ r) (filled_in zero n e l (omega (arith, q)) (le_of_suc-le-suc h))
  filled_in (suc a) n zero l q h = absurd (omega (arith, q))
  filled_in (suc a) n (suc e) [] q h = absurd (not-suc-le-zero h)
  filled_in (suc a) n (suc e) (x ∷ l) q h = ap (λ (r : List A). x ∷ r) (filled_in a n e l (omega (arith, q)) (le_of_suc-le-suc h))

  pub filled_stretch : (a k e : ℕ) (l : List A) {m : List A} → m ≡ replicate (length (mid_of a k l)) y → a + k ≡ e → e ≤ length l → put_mid a k l m ≡ map_in (λ _. y) a e l
  filled_stretch a k e l {m} q s h =
      let o : length (mid_of a k l) ≡ k = length-take-le k (drop a l) (omega (arith, length-drop a l, s, h)) in
      rw q (rw o (filled_in a k e l s h))

module _ {A : Type 0} (z d : A) (g : ℕ → A) where
  pub copied : (a n k : ℕ) (l : List A) {m : List A} → m ≡ take k (drop a l) → k ≡ n → a + n ≤ length l → ((j : ℕ) → g j ≡ get_or l (a + j) d) → m ++ drop n (replicate term_room z) ≡ filled z g n
  unfolding filled
  copied a n k l {m} q s h e =
      let o : length m ≡ n = ap length q ∙ length-take-le k (drop a l) (omega (arith, length-drop a l, h, s)) ∙ s in
      let t : list_of n g ≡ m = rw o at (list_of-is g m d (λ j i. e j ∙ sym (get_or-drop a l j d) ∙ sym (get_or-take k (drop a l) j d (omega (arith, i, o, s))) ∙ sym (ap (λ (x : List A). get_or x j d) q))) in
      rw (t, drop-replicate n term_room z) refl
