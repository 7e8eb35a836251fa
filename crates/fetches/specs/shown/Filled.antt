-- Sixteen places filled one after the other, zeros behind. Assumes nothing.
use Prim.Native.Nat.{ℕ, zero, suc, ◌+◌, ◌-◌, ◌<◌}
use Rattle.std.specs.Prelude.{◌≡◌, set}
use Rattle.std.proofs.Math.Path.{refl, ap}
use Rattle.std.proofs.Common.{◌∙◌, add-zero}
use mathlib.Core.List.{List, [], ◌∷◌, ◌++◌}
use Rattle.std.proofs.Math.Numerals.{add-one}
use native.Mathlib.Omega.{arith}
use Rattle.std.proofs.Math.ListN.{replicate}
use Rattle.std.proofs.lemmas.List.{set_at}
use Rattle.laws.specs.Lists.{tab, list_of, length-tab}
use Rattle.layout.specs.Layout.{term_room}

module _ {A : Type 0} (z : A) (g : ℕ → A) where
  -- the first n filled
  unfoldable pub filled : ℕ → List A
  filled n = list_of n g ++ replicate (term_room - n) z

  pub filled_none : replicate term_room z ≡ filled 0
  unfolding filled list_of tab
  filled_none = refl

  snoc : (i n : ℕ) → tab g i (suc n) ≡ tab g i n ++ (g (i + n) ∷ [])
  unfolding tab
  snoc i zero = rw (add-zero i) refl
  snoc i (suc n) =
      let e : suc i + n ≡ i + suc n = omega arith in
      ap (λ (l : List A). g i ∷ l) (rw e at (snoc (suc i) n))

  pub filled_next : (n : ℕ) {x : A} {r : List A} → n < term_room → r ≡ filled n → x ≡ g n → set r n x ≡ filled (n + 1)
  unfolding filled list_of
  filled_next n {x} {r} h q e =
      let k : term_room - n ≡ suc (term_room - suc n) = omega arith in
      let o : 0 + n ≡ n = omega arith in
      rw (q, add-one n, k, e)
      (set_at (tab g 0 n) z (replicate (term_room - suc n) z) (g n) n (length-tab g 0 n)
      ∙ (sym-assoc (tab g 0 n) (g n) (replicate (term_room - suc n) z) ∙ ap (λ (l : List A). l ++ replicate (term_room - suc n) z) (rw o at (back (snoc 0 n)))))
    where
      sym-assoc : (l : List A) (y : A) (r : List A) → l ++ (y ∷ r) ≡ (l ++ (y ∷ [])) ++ r
      sym-assoc [] y r = refl
      sym-assoc (w ∷ l) y r = ap (λ (m : List A). w ∷ m) (sym-assoc l y r)

      back : {l m : List A} → l ≡ m → m ≡ l
      back p = rw p refl
