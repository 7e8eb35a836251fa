-- What stands beside a key; and a run of cells laid into a dense row reads as the row.
-- Assumes nothing.
use Rattle.std.specs.Prelude.{ℕ, suc, ◌+◌, ◌*◌, ◌%◌, ◌≤◌, ◌<◌, ◌≡◌, refl, Bool, true, false, List, eqb, ltb, Float, length, get_or, set}
use Rattle.std.proofs.Common.{sym, ap, ◌∙◌, subst, arith, length-set, get_or-set_same, get_or-set_other, ltb-true, ltb-false, eqb-true, ne_eqb, eq-eqb}
use Rattle.std.specs.Float.{nan}
use Rattle.std.proofs.lemmas.Bool.{eqb-false}
use Rattle.laws.specs.Lists.{tab, tab-ext}
use Rattle.steps.specs.Number.{zero64}
use Rattle.layout.specs.cells.Names.{row_span}
use Rattle.layout.specs.cells.Cells.{Ascending, cell_in, cell_at, row_of, expand_turn, expanded}
use Rattle.layout.specs.cells.Seek.{first-elim, first-none, first-at, first-within, first-moved, run-inv}
use Rattle.layout.specs.cells.Search.{Bound}

-- ---- ascending keys
pub ascending-le : (keys : List ℕ) (n a b : ℕ) → Ascending keys n → a ≤ b → b < n → get_or keys a 0 ≤ get_or keys b 0
unfolding Ascending
ascending-le keys n a b up h k = go (ltb a b) refl
  where
    go : (t : Bool) → ltb a b ≡ t → get_or keys a 0 ≤ get_or keys b 0
    go true q = let u = up a b (ltb-true a b q) k in omega (arith, u)
    go false q =
        let e : a ≡ b = omega (arith, ltb-false a b q, h) in
        subst (λ (z : ℕ). get_or keys a 0 ≤ get_or keys z 0) e (omega arith)

pub ascending-lt : (keys : List ℕ) (n a b : ℕ) → Ascending keys n → a < b → b < n → get_or keys a 0 < get_or keys b 0
unfolding Ascending
ascending-lt keys n a b up h k = up a b h k

-- ---- beside a key
pub cell-here : (keys : List ℕ) (vals : List Float) (n a e j : ℕ) → Ascending keys n → a ≤ j → j < e → e ≤ n → cell_in keys vals (get_or keys j 0) a e ≡ get_or vals j nan
unfolding cell_in
cell-here keys vals n a e j up h k l =
    first-at (λ i. eqb (get_or keys j 0) (get_or keys i 0)) (λ i. get_or vals i nan) zero64 a e j h k (eq-eqb (get_or keys j 0) (get_or keys j 0) refl) λ i u v.
    let w = ascending-lt keys n i j up v (omega arith) in
    ne_eqb (get_or keys j 0) (get_or keys i 0) λ q. omega (arith, w, q)

pub cell-at : (keys : List ℕ) (vals : List Float) (key a e j : ℕ) → a ≤ j → j < e → key ≡ get_or keys j 0 → ((i : ℕ) → a ≤ i → i < j → key ≡ get_or keys i 0 → ⊥) → cell_in keys vals key a e ≡ get_or vals j nan
unfolding cell_in
cell-at keys vals key a e j h k q f = first-at (λ i. eqb key (get_or keys i 0)) (λ i. get_or vals i nan) zero64 a e j h k (eq-eqb key (get_or keys j 0) q) λ i u v. ne_eqb key (get_or keys i 0) (f i u v)

pub cell-absent : (keys : List ℕ) (vals : List Float) (key a e : ℕ) → a ≤ e → ((j : ℕ) → a ≤ j → j < e → key ≡ get_or keys j 0 → ⊥) → cell_in keys vals key a e ≡ zero64
unfolding cell_in
cell-absent keys vals key a e h f = first-none (λ i. eqb key (get_or keys i 0)) (λ i. get_or vals i nan) zero64 a e h λ j u v. ne_eqb _ _ (f j u v)

-- in a wider range, where the key does not stand outside the narrow one
pub cell-within : (keys keys' : List ℕ) (vals vals' : List Float) (key a b e z : ℕ) → a ≤ b → b ≤ e → e ≤ z
    → ((j : ℕ) → b ≤ j → j < e → get_or keys j 0 ≡ get_or keys' j 0) → ((j : ℕ) → b ≤ j → j < e → get_or vals j nan ≡ get_or vals' j nan)
    → ((j : ℕ) → a ≤ j → j < b → key ≡ get_or keys j 0 → ⊥) → ((j : ℕ) → e ≤ j → j < z → key ≡ get_or keys j 0 → ⊥) → cell_in keys vals key a z ≡ cell_in keys' vals' key b e
unfolding cell_in
cell-within keys keys' vals vals' key a b e z h k l s t u v =
    first-within (λ i. eqb key (get_or keys i 0)) (λ i. eqb key (get_or keys' i 0)) (λ i. get_or vals i nan) (λ i. get_or vals' i nan) zero64 a b e z h k l
    (λ j c d. ap (eqb key) (s j c d)) t (λ j c d. ne_eqb _ _ (u j c d)) λ j c d. ne_eqb _ _ (v j c d)

-- in cells that stand elsewhere
pub cell-moved : (keys keys' : List ℕ) (vals vals' : List Float) (key m a b : ℕ) → ((j : ℕ) → j < m → get_or keys (a + j) 0 ≡ get_or keys' (b + j) 0) → ((j : ℕ) → j < m → get_or vals (a + j) nan ≡ get_or vals' (b + j) nan)
    → cell_in keys vals key a (a + m) ≡ cell_in keys' vals' key b (b + m)
unfolding cell_in
cell-moved keys keys' vals vals' key m a b s t =
    first-moved (λ i. eqb key (get_or keys i 0)) (λ i. eqb key (get_or keys' i 0)) (λ i. get_or vals i nan) (λ i. get_or vals' i nan) zero64 m a b (λ j h. ap (eqb key) (s j h)) t

-- in cells that stand elsewhere under other keys
pub cell-renamed : (keys keys' : List ℕ) (vals vals' : List Float) (key key' m a b : ℕ) → ((j : ℕ) → j < m → eqb key (get_or keys (a + j) 0) ≡ eqb key' (get_or keys' (b + j) 0)) → ((j : ℕ) → j < m → get_or vals (a + j) nan ≡ get_or vals' (b + j) nan)
    → cell_in keys vals key a (a + m) ≡ cell_in keys' vals' key' b (b + m)
unfolding cell_in
cell-renamed keys keys' vals vals' key key' m a b s t =
    first-moved (λ i. eqb key (get_or keys i 0)) (λ i. eqb key' (get_or keys' i 0)) (λ i. get_or vals i nan) (λ i. get_or vals' i nan) zero64 m a b s t

-- ---- the run of a row

-- the cells of row i are those from place a up to e
abbrev pub RowRun : List ℕ → ℕ → ℕ → ℕ → ℕ → Type 0
RowRun keys n i a e = Bound keys (i * row_span) 0 n a × Bound keys (i * row_span + row_span) 0 n e

pub run-le : (keys : List ℕ) (n i a e : ℕ) → RowRun keys n i a e → a ≤ e
run-le keys n i a e r = go (ltb e a) refl
  where
    go : (t : Bool) → ltb e a ≡ t → a ≤ e
    go true q =
        let l : e < a = ltb-true e a q in
        let u = r.0.2 e (omega arith) l in
        let v = r.1.3 (omega (arith, l, r.0.1)) in
        absurd (omega (arith, u, v))
    go false q = ltb-false e a q

pub run-low : (keys : List ℕ) (n i a e j : ℕ) → Ascending keys n → RowRun keys n i a e → a ≤ j → j < n → i * row_span ≤ get_or keys j 0
run-low keys n i a e j up r h k =
    let u = ascending-le keys n a j up h k in
    let v = r.0.3 (omega (arith, h, k)) in
    omega (arith, u, v)

pub run-high : (keys : List ℕ) (n i a e j : ℕ) → RowRun keys n i a e → j < e → get_or keys j 0 < i * row_span + row_span
run-high keys n i a e j r h = r.1.2 j (omega arith) h

pub run_past : (keys : List ℕ) (n i a e j : ℕ) → Ascending keys n → RowRun keys n i a e → e ≤ j → j < n → i * row_span + row_span ≤ get_or keys j 0
run_past keys n i a e j up r h k =
    let u = ascending-le keys n e j up h k in
    let v = r.1.3 (omega (arith, h, k)) in
    omega (arith, u, v)

-- a cell of row i is read in its run
pub cell-run : (keys : List ℕ) (vals : List Float) (n i a e p : ℕ) → Ascending keys n → RowRun keys n i a e → p < row_span → cell_at keys vals n (i * row_span + p) ≡ cell_in keys vals (i * row_span + p) a e
unfolding cell_at
cell-run keys vals n i a e p up r h =
    cell-within keys keys vals vals (i * row_span + p) 0 a e n (omega arith) (run-le keys n i a e r) r.1.1 (λ j c d. refl) (λ j c d. refl)
    (λ j c d q. let u = r.0.2 j c d in omega (arith, u, q))
    λ j c d q. let u = run_past keys n i a e j up r c d in omega (arith, u, q, h)

-- ---- expand
expanded-kept : (keys : List ℕ) (vals row : List Float) (a e p : ℕ) (d : Float) → a ≤ e → ((j : ℕ) → a ≤ j → j < e → p ≡ get_or keys j 0 % row_span → ⊥) → get_or (expanded keys vals a e row) p d ≡ get_or row p d
unfolding expanded expand_turn
expanded-kept keys vals row a e p d h f =
    run-inv (λ (j : ℕ) (t : List Float). get_or t p d ≡ get_or row p d) (expand_turn keys vals) a e row h
    (λ j t u v q. get_or-set_other t (get_or keys j 0 % row_span) p (get_or vals j nan) d (f j u v) ∙ q) refl

expanded-here : (keys : List ℕ) (vals row : List Float) (a e p r : ℕ) (d : Float) → a ≤ r → r < e → p < length row → p ≡ get_or keys r 0 % row_span → ((j : ℕ) → r < j → j < e → p ≡ get_or keys j 0 % row_span → ⊥) → get_or (expanded keys vals a e row) p d ≡ get_or vals r nan
unfolding expanded expand_turn
expanded-here keys vals row a e p r d h k l w f =
    (run-inv (λ (j : ℕ) (t : List Float). (length t ≡ length row) × (r < j → get_or t p d ≡ get_or vals r nan)) (expand_turn keys vals) a e row (omega arith)
    (λ j t u v q. (length-set t (get_or keys j 0 % row_span) (get_or vals j nan) ∙ q.0, λ c. go j t v q c (ltb r j) refl)) (refl, λ c. absurd (omega arith))).1 k
  where
    go : (j : ℕ) (t : List Float) → j < e → (length t ≡ length row) × (r < j → get_or t p d ≡ get_or vals r nan) → r < suc j → (b : Bool) → ltb r j ≡ b → get_or (set t (get_or keys j 0 % row_span) (get_or vals j nan)) p d ≡ get_or vals r nan
    go j t v q c true y = get_or-set_other t (get_or keys j 0 % row_span) p (get_or vals j nan) d (f j (ltb-true r j y) v) ∙ q.1 (ltb-true r j y)
    go j t v q c false y =
        let o : r ≡ j = omega (arith, ltb-false r j y, c) in
        subst (λ (z : ℕ). get_or (set t (get_or keys z 0 % row_span) (get_or vals z nan)) p d ≡ get_or vals r nan) o
        (subst (λ (z : ℕ). get_or (set t z (get_or vals r nan)) p d ≡ get_or vals r nan) w (get_or-set_same t p (get_or vals r nan) d (omega (arith, q.0, l))))

place_of : (i p x : ℕ) → p < row_span → i * row_span + p ≡ x → p ≡ x % row_span
place_of i p x h q = omega arith

pub expand-reads : (keys : List ℕ) (vals row : List Float) (n k i a e : ℕ) → Ascending keys n → RowRun keys n i a e → k < row_span → k < length row → ((p : ℕ) → 1 ≤ p → p < 1 + k → get_or row p nan ≡ zero64)
    → tab (λ p. get_or (expanded keys vals a e row) p nan) 1 k ≡ row_of keys vals n k i
unfolding row_of cell_in
expand-reads keys vals row n k i a e up r h l z =
    tab-ext (λ p. get_or (expanded keys vals a e row) p nan) (λ p. cell_at keys vals n (i * row_span + p)) 1 k λ p u v.
    at p u v ∙ sym (cell-run keys vals n i a e p up r (omega arith))
  where
    other : (p j s : ℕ) → p < row_span → a ≤ j → j < e → (i * row_span + p ≡ get_or keys j 0 → ⊥) → p ≡ get_or keys j 0 % row_span → ⊥
    other p j s h u v f q =
        let lo = run-low keys n i a e j up r u (omega (arith, v, r.1.1)) in
        let hi = run-high keys n i a e j r v in
        f (omega (arith, lo, hi, q, h))

    at : (p : ℕ) → 1 ≤ p → p < 1 + k → get_or (expanded keys vals a e row) p nan ≡ cell_in keys vals (i * row_span + p) a e
    at p u v =
        first-elim (λ j. eqb (i * row_span + p) (get_or keys j 0)) (λ j. get_or vals j nan) zero64 (λ (y : Float). get_or (expanded keys vals a e row) p nan ≡ y) a e (run-le keys n i a e r)
        (λ s b c t f.
        let q : i * row_span + p ≡ get_or keys s 0 = eqb-true _ _ t in
        expanded-here keys vals row a e p s nan b c (omega arith) (place_of i p (get_or keys s 0) (omega arith) q) λ j m o.
        other p j s (omega arith) (omega arith) o λ w. let x = ascending-lt keys n s j up m (omega (arith, o, r.1.1)) in omega (arith, x, q, w))
        λ f. expanded-kept keys vals row a e p nan (run-le keys n i a e r) (λ j m o. other p j 0 (omega arith) m o (eqb-false _ _ (f j m o))) ∙ z p u v
