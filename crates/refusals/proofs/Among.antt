-- Whether one of the first places of a list passes a test, place by place.
use Prim.Native.Nat.{ℕ, zero, suc, ◌+◌, ◌≤◌}
use mathlib.Core.Path.{◌≡◌, refl, sym, ap, ◌∙◌}
use mathlib.Core.Bool.{Bool, true, false, not, ◌&&◌, ◌||◌}
use mathlib.Core.List.{List}
use native.Mathlib.Omega.{arith}
use borrow.Author.Tests.{eq-eqb, ne_eqb, eqb-true, eqb-false}
use lib.Dec.{eqb}
use lib.ListN.{length, take, get_or}
use Rattle.std.specs.List.{list_any}
use Rattle.std.proofs.Math.Numerals.{add-one}
use Rattle.std.proofs.lemmas.List.Folds.{list_any_more}
use Rattle.laws.specs.Lists.{all_in, all_on, all-next, all-last}

pub turned : (m n : ℕ) → eqb n m ≡ eqb m n
turned m n = go (eqb m n) refl
  where
    go : (b : Bool) → eqb m n ≡ b → eqb n m ≡ b
    go true e = let k : m ≡ n = eqb-true m n e in eq-eqb n m (sym k)
    go false e = ne_eqb n m (λ k. eqb-false m n e (sym k))

neither : (a b : Bool) → not (a || b) ≡ not a && not b
neither true b = refl
neither false b = refl

module _ {A : Type 0} (p : A → Bool) (q : ℕ → Bool) (xs : List A) (d : A) (h : (j : ℕ) → not (p (get_or xs j d)) ≡ q j) where
  walked : (i e : ℕ) → i ≤ e → e ≤ length xs → all_on q i e (not (list_any p (take i xs))) ≡ all_in q 0 e
  unfolding all_on
  walked zero e k l = refl
  walked (suc i) e k l = rw add-one at (all-next q i e (not (list_any p (take i xs))) k step (walked i e (omega (arith, k)) l))
    where
      step : not (list_any p (take (i + 1) xs)) ≡ not (list_any p (take i xs)) && q i
      step = ap not (list_any_more p xs i d (omega (arith, k, l))) ∙ neither (list_any p (take i xs)) (p (get_or xs i d)) ∙ ap (λ (b : Bool). not (list_any p (take i xs)) && b) (h i)

  pub none_among : (e : ℕ) → e ≤ length xs → not (list_any p (take e xs)) ≡ all_in q 0 e
  none_among e l = all-last q e e (not (list_any p (take e xs))) (omega arith) (walked e e (omega arith) l)
