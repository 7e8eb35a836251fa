-- What a stretch copied or filled is, as a loop over its places: a run pasted, places cleared.
use Prim.Native.Nat.{ℕ, zero, suc, ◌+◌, ◌-◌, ◌≤◌}
use mathlib.Core.Path.{◌≡◌, refl, sym, ap, ◌∙◌}
use mathlib.Core.List.{List, [], ◌∷◌, ◌++◌}
use native.Mathlib.Omega.{arith}
use lib.ListN.{length, take, drop, set, get_or, replicate, length-drop}
use lib.Seq.{paste, paste-zero, paste-suc, drop-drop, length-take-le}
use Rattle.laws.specs.Loops.{map_in}
use Rattle.layout.specs.cells.Seek.{run-inv}
use Rattle.waist.specs.merging.Merge.{pasted}
use Rattle.std.proofs.Common.{append_assoc, not-suc-le-zero, le_of_suc-le-suc}

module _ {A : Type 0} where
  -- the first m elements of one list, over those of another from place a on
  pasted-is : (d : A) (a m : ℕ) (from l : List A) → m ≤ length from → a + m ≤ length l → pasted d a m from l ≡ paste l a from m
  unfolding pasted
  pasted-is d a m from l h k =
      run-inv (λ j t. t ≡ paste l a from j) (λ j t. set t (a + j) (get_or from j d)) 0 m l (omega arith)
      (λ j t p q r. rw r (paste-suc l a from j d (omega (arith, q, k)) (omega (arith, q, h)))) (paste-zero l a from)

  pub copied-pasted : (d : A) (a m : ℕ) (from l : List A) {ys : List A} → m ≤ length from → a + m ≤ length l → ys ≡ take m from → take a l ++ (ys ++ drop (a + m - a) (drop a l)) ≡ pasted d a m from l
  copied-pasted d a m from l h k q =
      let n : a + m - a ≡ m = omega arith in
      rw (n, q, drop-drop m a l) (sym (append_assoc (take a l) (take m from) (drop (a + m) l)) ∙ sym (pasted-is d a m from l h k))

  -- places cleared
  cleared : (v : A) (a n e : ℕ) (l : List A) → a + n ≡ e → e ≤ length l → take a l ++ (replicate n v ++ drop n (drop a l)) ≡ map_in (λ _. v) a e l
  unfolding map_in
  cleared v zero zero zero [] q h = refl
  cleared v (suc a) n zero l q h = absurd (omega (arith, q))
  cleared v a n (suc e) [] q h = absurd (not-suc-le-zero h)
  cleared v zero (suc n) zero l q h = absurd (omega (arith, q))
  cleared v zero zero zero (x ∷ l) q h = refl
  cleared v zero zero (suc e) (x ∷ l) q h = absurd (omega (arith, q))
  cleared v zero (suc n) (suc e) (x ∷ l) q h = ap (λ (r : List A). v ∷ r) (cleared v zero n e l (omega (arith, q)) (le_of_suc-le-suc h))
  cleared v (suc a) n (suc e) (x ∷ l) q h = ap (λ (r : List A). x ∷ r) (cleared v a n e l (omega (arith, q)) (le_of_suc-le-suc h))

  pub filled : (v : A) (a n : ℕ) (l : List A) {ys : List A} → a + n ≤ length l → ys ≡ replicate (length (take (a + n - a) (drop a l))) v → take a l ++ (ys ++ drop (a + n - a) (drop a l)) ≡ map_in (λ _. v) a (a + n) l
  filled v a n l h q =
      let b : a + n - a ≡ n = omega arith in
      let c : length (take n (drop a l)) ≡ n = length-take-le n (drop a l) (rw (length-drop a l) (omega (arith, h))) in
      rw (b, rw (b, c) at q) (cleared v a n (a + n) l refl h)
