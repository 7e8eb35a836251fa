-- Row i comes without a cell: the rows before it read as before, row i reads as no cell, the rows from i on one row up, and the keys still ascend.
-- Assumes nothing.
use Rattle.std.specs.Prelude.{ℕ, ◌+◌, ◌-◌, ◌*◌, ◌≤◌, ◌<◌, ◌≡◌, Bool, List, eqb, Float, length}
use Rattle.std.proofs.Math.Path.{refl, sym, ap}
use Rattle.std.proofs.Common.{◌∙◌}
use Rattle.std.proofs.Math.Bool.{true, false}
use native.Mathlib.Omega.{arith}
use Rattle.std.proofs.Math.Dec.{ltb}
use Rattle.std.proofs.Math.ListN.{get_or}
use borrow.Author.Tests.{ltb-true, ltb-false, lt-ltb, eqb-true, eqb-false, eq-eqb, ne_eqb}
use Rattle.laws.specs.Loops.{map_in}
use Rattle.laws.specs.Lists.{tab, tab-ext}
use Rattle.laws.specs.Places.{map_in-at, map_in-before}
use Rattle.steps.specs.Number.{zero64}
use Rattle.layout.specs.cells.Names.{row_span, keys_end}
use Rattle.layout.specs.cells.Cells.{Ascending, lower_in, cell_in, cell_at, row_of, row_after, opened}
use Rattle.layout.specs.cells.Search.{Bound, lower-bound}
use Rattle.layout.specs.cells.Reads.{ascending-le, ascending-lt, cell-absent, cell-within, cell-renamed}

pub after_is : (x : ℕ) → x < keys_end → row_after x ≡ x + row_span
unfolding row_after
after_is x h = rw (lt-ltb x keys_end h)

eqb-raised : (x y : ℕ) → eqb (x + row_span) (y + row_span) ≡ eqb x y
eqb-raised x y = go (eqb x y) refl
  where
    go : (b : Bool) → eqb x y ≡ b → eqb (x + row_span) (y + row_span) ≡ b
    go true q = let e = eqb-true x y q in eq-eqb (x + row_span) (y + row_span) (omega (arith, e))
    go false q = let e = eqb-false x y q in ne_eqb (x + row_span) (y + row_span) λ w. e (omega (arith, w))

-- the keys lie below the end, so that a row can come
abbrev pub Raisable : List ℕ → ℕ → Type 0
Raisable keys n = (j : ℕ) → j < n → get_or keys j 0 < keys_end

module _ (n i a : ℕ) (keys : List ℕ) (vals : List Float) (up : Ascending keys n) (b : Bound keys (i * row_span) 0 n a) (lk : n ≤ length keys) (low : Raisable keys n) where
  ks : List ℕ
  ks = map_in row_after a n keys

  lead : (j : ℕ) → j < a → get_or ks j 0 ≡ get_or keys j 0
  unfolding ks
  lead j u = map_in-before row_after a n keys j 0 u

  tail : (j : ℕ) → a ≤ j → j < n → get_or ks j 0 ≡ get_or keys j 0 + row_span
  unfolding ks
  tail j u v = map_in-at row_after a n keys j 0 u v (omega (arith, v, lk)) ∙ after_is (get_or keys j 0) (low j v)

  past : (j : ℕ) → a ≤ j → j < n → i * row_span ≤ get_or keys j 0
  past j u v =
      let h = ascending-le keys n a j up u v in
      let g = b.3 (omega (arith, u, v)) in
      omega (arith, h, g)

  climbs : (x y : ℕ) → x < y → y < n → get_or ks x 0 < get_or ks y 0
  climbs x y h l = go (ltb y a) refl (ltb x a) refl
    where
      o : get_or keys x 0 < get_or keys y 0
      o = ascending-lt keys n x y up h l

      go : (t : Bool) → ltb y a ≡ t → (s : Bool) → ltb x a ≡ s → get_or ks x 0 < get_or ks y 0
      go true p s q =
          let v = ltb-true y a p in
          omega (arith, o, lead x (omega (arith, h, v)), lead y v)
      go false p true q = omega (arith, o, lead x (ltb-true x a q), tail y (ltb-false y a p) l)
      go false p false q = omega (arith, o, tail x (ltb-false x a q) (omega (arith, h, l)), tail y (ltb-false y a p) l)

  at-below : (key : ℕ) → key < i * row_span → cell_at ks vals n key ≡ cell_at keys vals n key
  unfolding cell_at
  at-below key h =
      cell-within ks keys vals vals key 0 0 a n (omega arith) (omega arith) b.1 (λ j c d. lead j d) (λ j c d. refl) (λ j c d x. omega (arith, c, d))
      (λ j c d x. let y = past j c d in let z = tail j c d in omega (arith, x, y, z, h))
      ∙ sym
      (cell-within keys keys vals vals key 0 0 a n (omega arith) (omega arith) b.1 (λ j c d. refl) (λ j c d. refl) (λ j c d x. omega (arith, c, d)) λ j c d x.
      let y = past j c d in
      omega (arith, x, y, h))

  at_new : (key : ℕ) → i * row_span ≤ key → key < i * row_span + row_span → cell_at ks vals n key ≡ zero64
  unfolding cell_at
  at_new key h k = cell-absent ks vals key 0 n (omega arith) λ j u v e. go j u v e (ltb j a) refl
    where
      go : (j : ℕ) → 0 ≤ j → j < n → key ≡ get_or ks j 0 → (t : Bool) → ltb j a ≡ t → ⊥
      go j u v e true q = let w = ltb-true j a q in let y = b.2 j u w in let z = lead j w in omega (arith, e, y, z, h)
      go j u v e false q = let w = ltb-false j a q in let y = past j w v in let z = tail j w v in omega (arith, e, y, z, k)

  at_above : (key : ℕ) → i * row_span ≤ key → cell_at ks vals n (key + row_span) ≡ cell_at keys vals n key
  unfolding cell_at
  at_above key h =
      let an : a ≤ n = b.1 in
      let o : a + (n - a) ≡ n = omega (arith, an) in
      let f : cell_in ks vals (key + row_span) a (a + (n - a)) ≡ cell_in keys vals key a (a + (n - a)) =
      cell-renamed ks keys vals vals (key + row_span) key (n - a) a a (λ j u. ap (eqb (key + row_span)) (tail (a + j) (omega arith) (omega (arith, u, an))) ∙ eqb-raised key (get_or keys (a + j) 0)) (λ j u. refl) in
      cell-within ks ks vals vals (key + row_span) 0 a n n (omega arith) an (omega arith) (λ j c d. refl) (λ j c d. refl) (λ j c d x. let y = b.2 j c d in let z = lead j d in omega (arith, x, y, z, h)) (λ j c d x. omega (arith, c, d))
      ∙ (rw o at f)
      ∙ sym
      (cell-within keys keys vals vals key 0 a n n (omega arith) an (omega arith) (λ j c d. refl) (λ j c d. refl) (λ j c d x.
      let y = b.2 j c d in
      omega (arith, x, y, h)) λ j c d x. omega (arith, c, d))

-- ---- the laws
module _ (n i : ℕ) (keys : List ℕ) (vals : List Float) where
  abbrev Fits : Type 0
  Fits = Ascending keys n × (n ≤ length keys) × Raisable keys n

  pub opened-ascends : Fits → Ascending (opened n i keys) n
  unfolding opened Ascending ks
  opened-ascends f = climbs n i _ keys vals f.0 (lower-bound keys (i * row_span) 0 n (omega arith)) f.1 f.2

  pub opened-before : (q k : ℕ) → q < i → k < row_span → Fits → row_of (opened n i keys) vals n k q ≡ row_of keys vals n k q
  unfolding opened row_of ks
  opened-before q k h l f =
      tab-ext _ (λ p. cell_at keys vals n (q * row_span + p)) 1 k λ p u v.
      at-below n i _ keys vals f.0 (lower-bound keys (i * row_span) 0 n (omega arith)) f.1 f.2 (q * row_span + p) (omega arith)

  pub opened-here : (k : ℕ) → k < row_span → Fits → row_of (opened n i keys) vals n k i ≡ tab (λ _. zero64) 1 k
  unfolding opened row_of ks
  opened-here k l f =
      tab-ext _ (λ _. zero64) 1 k λ p u v.
      at_new n i _ keys vals f.0 (lower-bound keys (i * row_span) 0 n (omega arith)) f.1 f.2 (i * row_span + p) (omega arith) (omega arith)

  pub opened_after : (q k : ℕ) → i ≤ q → k < row_span → Fits → row_of (opened n i keys) vals n k (q + 1) ≡ row_of keys vals n k q
  unfolding opened row_of ks
  opened_after q k h l f =
      tab-ext _ (λ p. cell_at keys vals n (q * row_span + p)) 1 k λ p u v.
      let o : q * row_span + p + row_span ≡ (q + 1) * row_span + p = omega arith in
      sym (ap (cell_at (map_in row_after (lower_in keys (i * row_span) 0 n) n keys) vals n) o)
      ∙ at_above n i _ keys vals f.0 (lower-bound keys (i * row_span) 0 n (omega arith)) f.1 f.2 (q * row_span + p) (omega arith)
