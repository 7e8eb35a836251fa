-- The walk along a column: it stops at every cell that names the place, and at no other; a row that holds the place has such a cell.
-- Assumes nothing.
use Rattle.std.specs.Prelude.{ℕ, zero, suc, ◌+◌, ◌-◌, ◌*◌, ◌%◌, ◌≤◌, ◌<◌, ◌≡◌, refl, Bool, true, false, cond, List, eqb, ltb, Float, get_or}
use Rattle.std.proofs.Common.{sym, ◌∙◌, subst, arith, ltb-true, ltb-false, eqb-true, eq-eqb, ne_eqb}
use Rattle.std.specs.Float.{nan}
use Rattle.std.proofs.lemmas.Bool.{eqb-false}
use Rattle.steps.specs.Number.{zero64}
use Rattle.steps.specs.Symbol.{absent, open_symbol}
use Rattle.layout.specs.cells.Names.{row_span}
use Rattle.layout.specs.cells.Cells.{names, next_in, last_before, cell_in, cell_at}
use Rattle.layout.specs.cells.Seek.{clash, first-elim}

-- ---- a turn of each walk
pub named : (keys : List ℕ) (p j : ℕ) → get_or keys j 0 % row_span ≡ p → names keys p j ≡ true
unfolding names
named keys p j h = eq-eqb p (get_or keys j 0 % row_span) (sym h)

pub unnamed : (keys : List ℕ) (p j : ℕ) → (get_or keys j 0 % row_span ≡ p → ⊥) → names keys p j ≡ false
unfolding names
unnamed keys p j h = ne_eqb p (get_or keys j 0 % row_span) λ e. h (sym e)

pub last-here : (keys : List ℕ) (p r : ℕ) {z : ℕ} → 0 < r → get_or keys (r - 1) 0 % row_span ≡ p → last_before keys p r ≡ z → r - 1 + 1 ≡ z
unfolding last_before
last-here keys p zero h q e = absurd (omega (arith, h))
last-here keys p (suc j) h q e =
    let o : suc j - 1 ≡ j = omega arith in
    let o₁ : suc j - 1 + 1 ≡ suc j = omega arith in
    let q₁ : get_or keys j 0 % row_span ≡ p = rw o at q in
    o₁ ∙ (rw (named keys p j q₁) at e)

pub last-next : (keys : List ℕ) (p r : ℕ) {z : ℕ} → 0 < r → (get_or keys (r - 1) 0 % row_span ≡ p → ⊥) → last_before keys p r ≡ z → last_before keys p (r - 1) ≡ z
unfolding last_before
last-next keys p zero h q e = absurd (omega (arith, h))
last-next keys p (suc j) h q e =
    let o : suc j - 1 ≡ j = omega arith in
    rw o (rw (unnamed keys p j λ w. q (rw o w)) at e)

pub last-over : (keys : List ℕ) (p r : ℕ) {z : ℕ} → r ≤ 0 → last_before keys p r ≡ z → 0 ≡ z
unfolding last_before
last-over keys p zero h e = e
last-over keys p (suc r) h e = absurd (omega (arith, h))

-- ---- what the walk stops at

-- the place where it stops names p, and none before it does
pub next-stops : (keys : List ℕ) (p j n : ℕ) → j ≤ n
    → (next_in keys p j n < n → get_or keys (next_in keys p j n) 0 % row_span ≡ p) × ((t : ℕ) → j ≤ t → t < next_in keys p j n → get_or keys t 0 % row_span ≡ p → ⊥)
unfolding next_in names
next-stops keys p j n h =
    first-elim (λ t. eqb p (get_or keys t 0 % row_span)) (λ t. t) n (λ (r : ℕ). (r < n → get_or keys r 0 % row_span ≡ p) × ((t : ℕ) → j ≤ t → t < r → get_or keys t 0 % row_span ≡ p → ⊥)) j n h
    (λ r b c t f. ((λ _. sym (eqb-true _ _ t)), λ s u v e. eqb-false _ _ (f s u v) (sym e)))
    λ f. ((λ q. absurd (omega (arith, q))), λ s u v e. eqb-false _ _ (f s u v) (sym e))

-- the place before r names p, and none from r up to j does
abbrev pub Stops : List ℕ → ℕ → ℕ → ℕ → Type 0
Stops keys p j r = (0 < r → get_or keys (r - 1) 0 % row_span ≡ p) × ((t : ℕ) → r ≤ t → t < j → get_or keys t 0 % row_span ≡ p → ⊥) × (r ≤ j)

pub last-stops : (keys : List ℕ) (p j : ℕ) → Stops keys p j (last_before keys p j)
unfolding last_before names
last-stops keys p zero = ((λ q. absurd (omega (arith, q))), (λ t u v e. omega (arith, v)), omega arith)
last-stops keys p (suc j) = go (names keys p j) refl (last-stops keys p j)
  where
    go : (b : Bool) → names keys p j ≡ b → Stops keys p j (last_before keys p j) → Stops keys p (suc j) (cond b (suc j) (last_before keys p j))
    go true q h =
        let o : suc j - 1 ≡ j = omega arith in
        ((λ _. rw o (sym (eqb-true p (get_or keys j 0 % row_span) q))), (λ t u v e. omega (arith, u, v)), omega arith)
    go false q h = (h.0, (λ t u v e. at t u v e (ltb t j) refl), omega (arith, h.2))
      where
        at : (t : ℕ) → last_before keys p j ≤ t → t < suc j → get_or keys t 0 % row_span ≡ p → (c : Bool) → ltb t j ≡ c → ⊥
        at t u v e true w = h.1 t u (ltb-true t j w) e
        at t u v e false w =
            let o : t ≡ j = omega (arith, v, ltb-false t j w) in
            eqb-false p (get_or keys j 0 % row_span) q (sym (subst (λ (z : ℕ). get_or keys z 0 % row_span ≡ p) o e))

pub zero-absent : absent zero64 ≡ true
unfolding open_symbol
zero-absent = refl

-- "A row holds a symbol if its cell isn't 0.0.": such a row has a cell that names the place
pub held-somewhere : (P : Type 0) (keys : List ℕ) (vals : List Float) (n i p : ℕ) → p < row_span → absent (cell_at keys vals n (i * row_span + p)) ≡ false
    → ((t : ℕ) → t < n → get_or keys t 0 ≡ i * row_span + p → get_or keys t 0 % row_span ≡ p → P) → P
unfolding cell_at cell_in
held-somewhere P keys vals n i p l h f =
    first-elim (λ j. eqb (i * row_span + p) (get_or keys j 0)) (λ j. get_or vals j nan) zero64 (λ (y : Float). absent y ≡ false → P) 0 n (omega arith)
    (λ r b c t g _. let e = eqb-true _ _ t in f r c (sym e) (place r (sym e)))
    (λ g a. absurd (nothing a)) h
  where
    place : (r : ℕ) → get_or keys r 0 ≡ i * row_span + p → get_or keys r 0 % row_span ≡ p
    place r e = omega (arith, e, l)

    nothing : absent zero64 ≡ false → ⊥
    nothing e = clash zero-absent e
