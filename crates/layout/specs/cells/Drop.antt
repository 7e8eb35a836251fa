-- Row i goes: the rows before it read as before, the rows after it one row down, and the keys still ascend.
-- Assumes nothing.
use Rattle.std.specs.Prelude.{ℕ, ◌+◌, ◌-◌, ◌*◌, ◌≤◌, ◌<◌, ◌≡◌, Bool, true, false, List, ltb, eqb, Float, length, get_or}
use Rattle.std.proofs.Math.Path.{refl, sym, ap}
use Rattle.std.proofs.Common.{◌∙◌, subst, ltb-true, ltb-false, eqb-true, eq-eqb, ne_eqb}
use native.Mathlib.Omega.{arith}
use Rattle.std.specs.Float.Ieee.{nan}
use Rattle.std.proofs.lemmas.Bool.{eqb-false}
use Rattle.laws.specs.Loops.{map_in}
use Rattle.laws.specs.Lists.{tab-ext}
use Rattle.laws.specs.Places.{map_in-at, map_in-before}
use Rattle.layout.specs.cells.Names.{row_span}
use Rattle.layout.specs.cells.Cells.{Ascending, cells, lower_in, cell_in, cell_at, row_of, moved, dropped_at, dropped}
use Rattle.layout.specs.cells.Slide.{length_moved, moved_before, moved_in}
use Rattle.layout.specs.cells.Reads.{ascending-lt, RowRun, run-le, run-low, run_past, cell-within, cell-renamed}
use Rattle.layout.specs.cells.Replace.{row-run}

pub dropped-is : (n i : ℕ) (keys : List ℕ) (vals : List Float) (a e : ℕ) (ks : List ℕ) (vs : List Float) {r : List ℕ}
    → a ≡ lower_in keys (i * row_span) 0 n → e ≡ lower_in keys (i * row_span + row_span) 0 n → ks ≡ moved e a (n - e) keys → vs ≡ moved e a (n - e) vals → r ≡ map_in (λ x. x - row_span) a (n - e + a) ks → cells r vs (n - e + a) ≡ dropped n i keys vals
unfolding dropped dropped_at
dropped-is n i keys vals a e ks vs h₁ h₂ h₃ h₄ h₅ = rw (h₅, h₄, h₃, h₂, h₁)

eqb-lowered : (x y : ℕ) → row_span ≤ y → eqb x (y - row_span) ≡ eqb (x + row_span) y
eqb-lowered x y h = go (eqb (x + row_span) y) refl
  where
    go : (b : Bool) → eqb (x + row_span) y ≡ b → eqb x (y - row_span) ≡ b
    go true q = let e = eqb-true (x + row_span) y q in eq-eqb x (y - row_span) (omega (arith, e))
    go false q = let e = eqb-false (x + row_span) y q in ne_eqb x (y - row_span) λ w. e (omega (arith, w, h))

module _ (n i a e : ℕ) (keys : List ℕ) (vals : List Float) (up : Ascending keys n) (r : RowRun keys n i a e) (lk : n ≤ length keys) (lv : n ≤ length vals) where
  ks : List ℕ
  ks = map_in (λ x. x - row_span) a (n - e + a) (moved e a (n - e) keys)

  vs : List Float
  vs = moved e a (n - e) vals

  bounds : (a ≤ e) × (e ≤ n)
  bounds = (run-le keys n i a e r, r.1.1)

  inside : (e + (n - e) ≤ length keys) × (a + (n - e) ≤ length keys) × (e + (n - e) ≤ length vals) × (a + (n - e) ≤ length vals)
  inside = let b = bounds in (omega (arith, b.1, lk), omega (arith, b.0, b.1, lk), omega (arith, b.1, lv), omega (arith, b.0, b.1, lv))

  lead : (j : ℕ) → j < a → get_or ks j 0 ≡ get_or keys j 0
  unfolding ks
  lead j u = map_in-before (λ x. x - row_span) a (n - e + a) (moved e a (n - e) keys) j 0 u ∙ moved_before e a (n - e) keys j 0 inside.0 inside.1 u

  leads : (j : ℕ) → j < a → get_or vs j nan ≡ get_or vals j nan
  unfolding vs
  leads j u = moved_before e a (n - e) vals j nan inside.2 inside.3 u

  tail : (j : ℕ) → j < n - e → get_or ks (a + j) 0 ≡ get_or keys (e + j) 0 - row_span
  unfolding ks
  tail j u =
      map_in-at (λ x. x - row_span) a (n - e + a) (moved e a (n - e) keys) (a + j) 0 (omega arith) (omega arith) (omega (arith, length_moved e a (n - e) keys inside.0 inside.1, inside.1, u))
      ∙ ap (λ (x : ℕ). x - row_span) (moved_in e a (n - e) keys j 0 inside.0 inside.1 u)

  tails : (j : ℕ) → j < n - e → get_or vs (a + j) nan ≡ get_or vals (e + j) nan
  unfolding vs
  tails j u = moved_in e a (n - e) vals j nan inside.2 inside.3 u

  past : (j : ℕ) → j < n - e → i * row_span + row_span ≤ get_or keys (e + j) 0
  past j u = run_past keys n i a e (e + j) up r (omega arith) (omega (arith, u, bounds.1))

  far : (j : ℕ) → a ≤ j → j < n - e + a → get_or ks j 0 ≡ get_or keys (e + (j - a)) 0 - row_span
  far j u v =
      let o : a + (j - a) ≡ j = omega arith in
      subst (λ (z : ℕ). get_or ks z 0 ≡ get_or keys (e + (j - a)) 0 - row_span) o (tail (j - a) (omega (arith, u, v)))

  over : (j : ℕ) → a ≤ j → j < n - e + a → i * row_span ≤ get_or ks j 0
  over j u v = let f = far j u v in let p = past (j - a) (omega (arith, u, v)) in omega (arith, f, p)

  climbs : (x y : ℕ) → x < y → y < n - e + a → get_or ks x 0 < get_or ks y 0
  climbs x y h l = go (ltb y a) refl (ltb x a) refl
    where
      go : (b : Bool) → ltb y a ≡ b → (c : Bool) → ltb x a ≡ c → get_or ks x 0 < get_or ks y 0
      go true p c q =
          let v = ltb-true y a p in
          let o = ascending-lt keys n x y up h (omega (arith, v, r.0.1)) in
          omega (arith, o, lead x (omega (arith, h, v)), lead y v)
      go false p true q =
          let u = ltb-true x a q in
          let v = over y (ltb-false y a p) l in
          omega (arith, v, lead x u, r.0.2 x (omega arith) u)
      go false p false q =
          let u = ltb-false x a q in
          let v = ltb-false y a p in
          let o = ascending-lt keys n (e + (x - a)) (e + (y - a)) up (omega (arith, h, u)) (omega (arith, l, v, bounds.1)) in
          let w = past (x - a) (omega (arith, h, l, u)) in
          omega (arith, o, w, far x u (omega (arith, h, l)), far y v l)

  at-below : (key : ℕ) → key < i * row_span → cell_at ks vs (n - e + a) key ≡ cell_at keys vals n key
  unfolding cell_at
  at-below key h =
      cell-within ks keys vs vals key 0 0 a (n - e + a) (omega arith) (omega arith) (omega arith) (λ j c d. lead j d) (λ j c d. leads j d) (λ j c d x. omega (arith, c, d)) (λ j c d x. let y = over j c d in omega (arith, x, y, h))
      ∙ sym
      (cell-within keys keys vals vals key 0 0 a n (omega arith) (omega arith) r.0.1 (λ j c d. refl) (λ j c d. refl) (λ j c d x. omega (arith, c, d)) λ j c d x.
      let y = run-low keys n i a e j up r c d in
      omega (arith, x, y, h))

  at_above : (key : ℕ) → i * row_span ≤ key → cell_at ks vs (n - e + a) key ≡ cell_at keys vals n (key + row_span)
  unfolding cell_at
  at_above key h =
      let en : e ≤ n = bounds.1 in
      let o : a + (n - e) ≡ n - e + a = omega arith in
      let o₁ : e + (n - e) ≡ n = omega (arith, en) in
      let f : cell_in ks vs key a (a + (n - e)) ≡ cell_in keys vals (key + row_span) e (e + (n - e)) =
      cell-renamed ks keys vs vals key (key + row_span) (n - e) a e (λ j u. ap (eqb key) (tail j u) ∙ eqb-lowered key (get_or keys (e + j) 0) (let p = past j u in omega (arith, p))) tails in
      cell-within ks ks vs vs key 0 a (n - e + a) (n - e + a) (omega arith) (omega arith) (omega arith) (λ j c d. refl) (λ j c d. refl) (λ j c d x. let y = r.0.2 j c d in let z = lead j d in omega (arith, x, y, z, h)) (λ j c d x. omega (arith, c, d))
      ∙ (rw (o, o₁) at f)
      ∙ sym
      (cell-within keys keys vals vals (key + row_span) 0 e n n (omega arith) en (omega arith) (λ j c d. refl) (λ j c d. refl) (λ j c d x.
      let y = r.1.2 j c d in
      omega (arith, x, y, h)) λ j c d x. omega (arith, c, d))

-- ---- the laws
module _ (n i : ℕ) (keys : List ℕ) (vals : List Float) where
  abbrev Fits : Type 0
  Fits = Ascending keys n × (n ≤ length keys) × (n ≤ length vals)

  pub dropped-ascends : Fits → Ascending (dropped n i keys vals).keys (dropped n i keys vals).size
  unfolding dropped dropped_at Ascending ks
  dropped-ascends f = climbs n i _ _ keys vals f.0 (row-run keys n i refl refl) f.1 f.2

  pub dropped-before : (q k : ℕ) → q < i → k < row_span → Fits → row_of (dropped n i keys vals).keys (dropped n i keys vals).vals (dropped n i keys vals).size k q ≡ row_of keys vals n k q
  unfolding dropped dropped_at row_of ks vs
  dropped-before q k h l f =
      tab-ext _ (λ p. cell_at keys vals n (q * row_span + p)) 1 k λ p u v.
      at-below n i _ _ keys vals f.0 (row-run keys n i refl refl) f.1 f.2 (q * row_span + p) (omega arith)

  pub dropped-after : (q k : ℕ) → i ≤ q → k < row_span → Fits → row_of (dropped n i keys vals).keys (dropped n i keys vals).vals (dropped n i keys vals).size k q ≡ row_of keys vals n k (q + 1)
  unfolding dropped dropped_at row_of ks vs
  dropped-after q k h l f =
      tab-ext _ (λ p. cell_at keys vals n ((q + 1) * row_span + p)) 1 k λ p u v.
      let o : q * row_span + p + row_span ≡ (q + 1) * row_span + p = omega arith in
      at_above n i _ _ keys vals f.0 (row-run keys n i refl refl) f.1 f.2 (q * row_span + p) (omega arith) ∙ ap (cell_at keys vals n) o
