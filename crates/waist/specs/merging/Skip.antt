-- Turns of a counted loop that change nothing can be left out.
-- Assumes nothing.
use Rattle.std.specs.Prelude.{ℕ, zero, suc, ◌+◌, ◌-◌, ◌≤◌, ◌<◌, ◌≡◌, refl, Bool, true, false, ltb}
use Rattle.std.proofs.Common.{sym, ap, ◌∙◌, add-zero, arith, ltb-true, ltb-false}
use Rattle.laws.specs.Loops.{run, run-next, run-last}

module _ {S : Type 0} where
  run-over : (g : ℕ → S → S) (i e : ℕ) (s : S) → e ≤ i → run g i e s ≡ s
  run-over g i e s h = sym (run-last g i e s h refl)

  skip : (g : ℕ → S → S) (e : ℕ) (s : S) (d i : ℕ) → ((j : ℕ) → i ≤ j → j < i + d → j < e → g j s ≡ s) → run g i e s ≡ run g (i + d) e s
  skip g e s zero i h = rw (add-zero i) refl
  skip g e s (suc d) i h = go (ltb i e) refl (skip g e s d (i + 1) λ j u v w. h j (omega (arith, u)) (omega (arith, v)) w)
    where
      o : i + 1 + d ≡ i + suc d
      o = omega arith

      go : (b : Bool) → ltb i e ≡ b → run g (i + 1) e s ≡ run g (i + 1 + d) e s → run g i e s ≡ run g (i + suc d) e s
      go true q r =
          let l = ltb-true i e q in
          sym (run-next g i e s l (sym (h i (omega arith) (omega arith) l)) refl)
          ∙ r
          ∙ ap (λ (z : ℕ). run g z e s) o
      go false q r =
          let l = ltb-false i e q in
          run-over g i e s l ∙ sym (run-over g (i + suc d) e s (omega (arith, l)))

  pub run-skip : (g : ℕ → S → S) (i b e : ℕ) (s : S) → i ≤ b → ((j : ℕ) → i ≤ j → j < b → j < e → g j s ≡ s) → run g i e s ≡ run g b e s
  run-skip g i b e s h k =
      let o : i + (b - i) ≡ b = omega arith in
      skip g e s (b - i) i (λ j u v w. k j u (omega (arith, v, h)) w) ∙ ap (λ (z : ℕ). run g z e s) o
