-- A list that is read out of a table, with one element more or less: what the table reads as after a place was opened or closed up.
-- Element j of the list stands at place a + j of the table; g reads it before the move, g' after it.
-- Assumes nothing.
use Rattle.std.specs.Prelude.{◌≡◌, ℕ, zero, suc, ◌+◌, ◌-◌, ◌<◌, ◌≤◌, Bool, true, false, cond, List, [], ◌∷◌}
use Rattle.std.proofs.Math.Path.{refl, sym, ap}
use Rattle.std.proofs.Common.{◌∙◌}
use Rattle.std.proofs.Math.Nat.{add-zero}
use native.Mathlib.Omega.{arith}
use Rattle.laws.specs.Loops.{seek, first}
use Rattle.laws.specs.Lists.{tab}
use Rattle.std.specs.Prelude.{Some, None}

seek-between : (p : ℕ → Bool) (e n i : ℕ) → i + n ≡ e → (i ≤ seek p (λ j. j) e n i) × (seek p (λ j. j) e n i ≤ e)
unfolding seek
seek-between p e zero i h = (omega arith, omega arith)
seek-between p e (suc n) i h =
    let r = seek-between p e n (suc i) (omega arith) in
    pick (p i) (seek p (λ j. j) e n (suc i)) r.0 r.1
  where
    pick : (b : Bool) (x : ℕ) → suc i ≤ x → x ≤ e → (i ≤ cond b i x) × (cond b i x ≤ e)
    pick true x a c = (omega arith, omega arith)
    pick false x a c = (omega arith, c)

module _ {A : Type 0} where
  tab-up : (g g' : ℕ → A) (i n : ℕ) → ((j : ℕ) → i ≤ j → j < i + n → g' (suc j) ≡ g j) → tab g' (suc i) n ≡ tab g i n
  unfolding tab
  tab-up g g' i zero q = refl
  tab-up g g' i (suc n) q =
      rw (q i (omega arith) (omega arith)) (ap (λ (r : List A). g i ∷ r) (tab-up g g' (suc i) n λ j a b. q j (omega arith) (omega arith)))

never : {X : Type 0} {z : ℕ} → Some z ≡ None → X
never e = absurd (let c : ◌≡◌ {A = ℕ} 0 1 = cc in omega arith)

same_at : {y z : ℕ} → Some y ≡ Some z → z ≡ y
same_at e = cc

seek-low : (q : ℕ → Bool) (n i z : ℕ) → seek q Some None n i ≡ Some z → i ≤ z
unfolding seek
seek-low q zero i z e = never (sym e)
seek-low q (suc n) i z e = by (q i) e (λ f. seek-low q n (suc i) z f)
  where
    by : (b : Bool) → cond b (Some i) (seek q Some None n (suc i)) ≡ Some z → (seek q Some None n (suc i) ≡ Some z → suc i ≤ z) → i ≤ z
    by true f r = omega (arith, same_at f)
    by false f r = omega (arith, r f)

module _ {A : Type 0} (a : ℕ) (q : ℕ → Bool) (g g' : ℕ → A) (look : ℕ → ℕ → List A) where
  -- ---- one more: y comes before the first that passes the test, and to the end if none does

  module _ (y : A) where
    keep-case : (i n z x : ℕ) (b : Bool) → z ≡ cond b (a + i) x → suc (a + i) ≤ x → (a + i < z → g' i ≡ g i)
        → (z ≡ a + i → y ∷ tab g i (suc n) ≡ tab g' i (suc (suc n))) → (z ≡ x → look (suc i) n ≡ tab g' (suc i) (suc n))
        → cond b (y ∷ tab g i (suc n)) (g i ∷ look (suc i) n) ≡ tab g' i (suc (suc n))
    unfolding tab
    keep-case i n z x true e h u v w = v e
    keep-case i n z x false e h u v w = rw (u (omega arith)) (ap (λ (r : List A). g i ∷ r) (w e))

    module _ (none : (i : ℕ) → look i zero ≡ y ∷ []) (some : (i n : ℕ) → look i (suc n) ≡ cond (q (a + i)) (y ∷ tab g i (suc n)) (g i ∷ look (suc i) n)) where
      keep-go : (n i z : ℕ) → z ≡ seek q (λ j. j) (a + (i + n)) n (a + i)
          → ((j : ℕ) → i ≤ j → a + j < z → g' j ≡ g j) → g' (z - a) ≡ y → ((j : ℕ) → z ≤ a + j → j < i + n → g' (suc j) ≡ g j)
          → look i n ≡ tab g' i (suc n)
      unfolding seek tab
      keep-go zero i z e before at after =
          let here : z - a ≡ i = omega (arith, e) in
          none i ∙ ap (λ (x : A). x ∷ []) (sym (rw here at at))
      keep-go (suc n) i z e before at after =
          let x : ℕ = seek q (λ j. j) (a + (i + suc n)) n (suc (a + i)) in
          let bounds = seek-between q (a + (i + suc n)) n (suc (a + i)) (omega arith) in
          let t : a + (i + suc n) ≡ a + (suc i + n) = omega arith in
          let s : suc (a + i) ≡ a + suc i = omega arith in
          some i n
          ∙ keep-case i n z x (q (a + i)) e bounds.0 (λ h. before i (omega arith) h)
          (λ f.
          let here : z - a ≡ i = omega (arith, f) in
          let first : g' i ≡ y = rw here at at in
          rw first (ap (λ (r : List A). y ∷ r) (sym (tab-up g g' i (suc n) λ j c d. after j (omega (arith, f)) d))))
          (λ f. keep-go n (suc i) z (rw (t, s) at f) (λ j c d. before j (omega arith) d) at (λ j c d. after j c (omega arith)))

      -- the list with y is what the table reads as after y's place was opened
      pub keep-walk : (n z : ℕ) → z ≡ first q (λ j. j) (a + n) a (a + n)
          → ((j : ℕ) → a + j < z → g' j ≡ g j) → g' (z - a) ≡ y → ((j : ℕ) → z ≤ a + j → j < n → g' (suc j) ≡ g j)
          → look 0 n ≡ tab g' 0 (suc n)
      unfolding first
      keep-walk n z e before at after =
          let t : a + n - a ≡ n = omega arith in
          let s : 0 + n ≡ n = omega arith in
          keep-go n 0 z (rw (s, add-zero a) (rw t at e)) (λ j c d. before j d) at (λ j c d. after j c (omega arith))

  -- ---- one less: the first that passes the test goes

  drop-case : (i n z : ℕ) (b : Bool) → cond b (Some (a + i)) (seek q Some None n (suc (a + i))) ≡ Some z → (a + i < z → g' i ≡ g i)
      → (z ≡ a + i → tab g (suc i) n ≡ tab g' i n) → (seek q Some None n (suc (a + i)) ≡ Some z → g i ∷ look (suc i) n ≡ tab g' i n)
      → cond b (tab g (suc i) n) (g i ∷ look (suc i) n) ≡ tab g' i n
  drop-case i n z true e u v w = v (same_at e)
  drop-case i n z false e u v w = w e

  module _ (none : (i : ℕ) → look i zero ≡ []) (some : (i n : ℕ) → look i (suc n) ≡ cond (q (a + i)) (tab g (suc i) n) (g i ∷ look (suc i) n)) where
    drop-go : (n i z : ℕ) → seek q Some None (suc n) (a + i) ≡ Some z
        → ((j : ℕ) → i ≤ j → a + j < z → g' j ≡ g j) → ((j : ℕ) → z ≤ a + j → j < i + n → g' j ≡ g (suc j))
        → look i (suc n) ≡ tab g' i n
    unfolding seek tab
    drop-go zero i z e before after =
        some i zero
        ∙ drop-case i zero z (q (a + i)) e (λ h. before i (omega arith) h) (λ f. refl) (λ f. never (sym f))
    drop-go (suc n) i z e before after =
        some i (suc n)
        ∙ drop-case i (suc n) z (q (a + i)) e (λ h. before i (omega arith) h)
        (λ f. tab-up g' g i (suc n) (λ j c d. sym (after j (omega (arith, f)) d)))
        (λ f.
        let low = seek-low q (suc n) (suc (a + i)) z f in
        let s : suc (a + i) ≡ a + suc i = omega arith in
        rw (before i (omega arith) (omega arith)) (ap (λ (r : List A). g i ∷ r) (drop-go n (suc i) z (rw s at f) (λ j c d. before j (omega arith) d) (λ j c d. after j c (omega arith)))))

    -- the list without it is what the table reads as after its place was closed up
    pub drop-walk : (n z : ℕ) → first q Some None a (a + suc n) ≡ Some z
        → ((j : ℕ) → a + j < z → g' j ≡ g j) → ((j : ℕ) → z ≤ a + j → j < n → g' j ≡ g (suc j))
        → look 0 (suc n) ≡ tab g' 0 n
    unfolding first
    drop-walk n z e before after =
        let t : a + suc n - a ≡ suc n = omega arith in
        drop-go n 0 z (rw (add-zero a) (rw t at e)) (λ j c d. before j d) (λ j c d. after j c (omega arith))
