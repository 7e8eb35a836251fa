-- The laws of a row that is replaced: the keys ascend, the row reads as the dense row, and every other row reads as before.
-- Assumes nothing.
use Rattle.std.specs.Prelude.{ℕ, suc, ◌+◌, ◌-◌, ◌*◌, ◌≤◌, ◌<◌, ◌≡◌, Bool, cond, List, Float, length}
use Rattle.std.proofs.Math.Path.{refl, sym}
use Rattle.std.proofs.Common.{◌∙◌, subst}
use Rattle.std.proofs.Math.Bool.{true, false}
use native.Mathlib.Omega.{arith}
use Rattle.std.proofs.Math.Dec.{ltb}
use Rattle.std.specs.Float.{nan}
use Rattle.std.specs.Float.Ieee.{ne}
use Rattle.std.proofs.Math.ListN.{get_or}
use borrow.Author.Tests.{ltb-true, ltb-false}
use Rattle.laws.specs.Lists.{tab, tab-ext}
use Rattle.steps.specs.Number.{zero64}
use Rattle.layout.specs.cells.Names.{row_span}
use Rattle.layout.specs.cells.Cells.{Ascending, Cells, cell_in, cell_at, row_of, count_turn, counted, settled, replaced_at, replaced}
use Rattle.layout.specs.cells.Seek.{run-inv}
use Rattle.layout.specs.cells.Reads.{ascending-lt, RowRun, run-low, cell-within, cell-moved}
use Rattle.layout.specs.cells.Replace.{Replacing, replacing, row-run}

pub counted-le : (k : ℕ) (row : List Float) → counted k row ≤ k
unfolding counted count_turn
counted-le k row =
    let h = run-inv (λ (p : ℕ) (c : ℕ). c + 1 ≤ p) (count_turn row) 1 (k + 1) 0 (omega arith) (λ p c u v q. go p c q (ne (get_or row p nan) zero64)) (omega arith) in
    omega (arith, h)
  where
    go : (p c : ℕ) → c + 1 ≤ p → (b : Bool) → cond b (c + 1) c + 1 ≤ suc p
    go p c q true = omega arith
    go p c q false = omega arith

module _ (n i k a e m : ℕ) (row : List Float) (keys : List ℕ) (vals : List Float) (t : Cells) (up : Ascending keys n) (r : RowRun keys n i a e) (g : Replacing n i k a e m row keys vals t) where
  climbs : (x y : ℕ) → x < y → y < n - e + (a + m) → get_or t.keys x 0 < get_or t.keys y 0
  climbs x y h l = go (ltb y a) refl (ltb x a) refl (ltb y (a + m)) refl (ltb x (a + m)) refl
    where
      far : (j : ℕ) → a + m ≤ j → j < n - e + (a + m) → get_or t.keys j 0 ≡ get_or keys (e + (j - (a + m))) 0
      far j u v =
          let o : a + m + (j - (a + m)) ≡ j = omega arith in
          subst (λ (z : ℕ). get_or t.keys z 0 ≡ get_or keys (e + (j - (a + m))) 0) o (g.tail (j - (a + m)) (omega (arith, u, v)))

      go : (b : Bool) → ltb y a ≡ b → (c : Bool) → ltb x a ≡ c → (d : Bool) → ltb y (a + m) ≡ d → (f : Bool) → ltb x (a + m) ≡ f → get_or t.keys x 0 < get_or t.keys y 0
      go true p c q d s f w =
          let v = ltb-true y a p in
          let o = ascending-lt keys n x y up h (omega (arith, v, r.0.1)) in
          omega (arith, o, g.lead x (omega (arith, h, v)), g.lead y v)
      go false p true q true s f w =
          let u = g.under x (ltb-true x a q) in
          let v = g.low y (ltb-false y a p) (ltb-true y (a + m) s) in
          omega (arith, u, v)
      go false p true q false s f w =
          let u = g.under x (ltb-true x a q) in
          let v = g.over y (ltb-false y (a + m) s) (omega (arith, l)) in
          omega (arith, u, v)
      go false p false q true s f w = g.climb x y (ltb-false x a q) h (ltb-true y (a + m) s)
      go false p false q false s true w =
          let u = g.high x (ltb-false x a q) (ltb-true x (a + m) w) in
          let v = g.over y (ltb-false y (a + m) s) (omega (arith, l)) in
          omega (arith, u, v)
      go false p false q false s false w =
          let u = ltb-false x (a + m) w in
          let v = ltb-false y (a + m) s in
          let o = ascending-lt keys n (e + (x - (a + m))) (e + (y - (a + m))) up (omega (arith, h, u)) (omega (arith, l, v, r.1.1)) in
          omega (arith, o, far x u (omega (arith, h, l)), far y v l)

  at_own : (q : ℕ) → 1 ≤ q → q < k + 1 → k < row_span → cell_at t.keys t.vals (n - e + (a + m)) (i * row_span + q) ≡ settled (get_or row q nan)
  unfolding cell_at
  at_own q u v w =
      cell-within t.keys t.keys t.vals t.vals (i * row_span + q) 0 a (a + m) (n - e + (a + m)) (omega arith) (omega arith) (omega arith) (λ j c d. refl) (λ j c d. refl)
      (λ j c d x. let y = g.under j d in omega (arith, x, y))
      (λ j c d x. let y = g.over j c (omega (arith, d)) in omega (arith, x, y, v, w))
      ∙ g.reads q u v

  at-below : (key : ℕ) → key < i * row_span → cell_at t.keys t.vals (n - e + (a + m)) key ≡ cell_at keys vals n key
  unfolding cell_at
  at-below key h =
      cell-within t.keys keys t.vals vals key 0 0 a (n - e + (a + m)) (omega arith) (omega arith) (omega arith) (λ j c d. g.lead j d) (λ j c d. g.leads j d) (λ j c d x. omega (arith, c, d)) (λ j c d x. past j c d x (ltb j (a + m)) refl)
      ∙ sym
      (cell-within keys keys vals vals key 0 0 a n (omega arith) (omega arith) r.0.1 (λ j c d. refl) (λ j c d. refl) (λ j c d x. omega (arith, c, d)) λ j c d x.
      let y = run-low keys n i a e j up r c d in
      omega (arith, x, y, h))
    where
      past : (j : ℕ) → a ≤ j → j < n - e + (a + m) → key ≡ get_or t.keys j 0 → (b : Bool) → ltb j (a + m) ≡ b → ⊥
      past j c d x true q = let y = g.low j c (ltb-true j (a + m) q) in omega (arith, x, y, h)
      past j c d x false q = let y = g.over j (ltb-false j (a + m) q) (omega (arith, d)) in omega (arith, x, y, h)

  at_above : (key : ℕ) → i * row_span + row_span ≤ key → cell_at t.keys t.vals (n - e + (a + m)) key ≡ cell_at keys vals n key
  unfolding cell_at
  at_above key h =
      let en : e ≤ n = r.1.1 in
      let o : a + m + (n - e) ≡ n - e + (a + m) = omega arith in
      let o₁ : e + (n - e) ≡ n = omega (arith, en) in
      let f : cell_in t.keys t.vals key (a + m) (a + m + (n - e)) ≡ cell_in keys vals key e (e + (n - e)) = cell-moved t.keys keys t.vals vals key (n - e) (a + m) e g.tail g.tails in
      cell-within t.keys t.keys t.vals t.vals key 0 (a + m) (n - e + (a + m)) (n - e + (a + m)) (omega arith) (omega arith) (omega arith) (λ j c d. refl) (λ j c d. refl) (λ j c d x. before j d x (ltb j a) refl) (λ j c d x. omega (arith, c, d))
      ∙ (rw (o, o₁) at f)
      ∙ sym
      (cell-within keys keys vals vals key 0 e n n (omega arith) en (omega arith) (λ j c d. refl) (λ j c d. refl) (λ j c d x.
      let y = r.1.2 j c d in
      omega (arith, x, y, h)) λ j c d x. omega (arith, c, d))
    where
      before : (j : ℕ) → j < a + m → key ≡ get_or t.keys j 0 → (b : Bool) → ltb j a ≡ b → ⊥
      before j d x true q = let y = g.under j (ltb-true j a q) in omega (arith, x, y, h)
      before j d x false q = let y = g.high j (ltb-false j a q) d in omega (arith, x, y, h)

-- ---- the laws
module _ (n i k : ℕ) (row : List Float) (keys : List ℕ) (vals : List Float) where
  abbrev Fits : Type 0
  Fits = Ascending keys n × (k < row_span) × (n + k ≤ length keys) × (n + k ≤ length vals)

  pub replaced-ascends : Fits → Ascending (replaced n i k row keys vals).keys (replaced n i k row keys vals).size
  unfolding replaced replaced_at Ascending
  replaced-ascends f =
      let r = row-run keys n i refl refl in
      climbs n i k _ _ (counted k row) row keys vals _ f.0 r (replacing n i k _ _ row keys vals f.0 r f.1 f.2 f.3 (counted-le k row))

  pub replaced-own : Fits → row_of (replaced n i k row keys vals).keys (replaced n i k row keys vals).vals (replaced n i k row keys vals).size k i ≡ tab (λ p. settled (get_or row p nan)) 1 k
  unfolding replaced replaced_at row_of
  replaced-own f =
      let r = row-run keys n i refl refl in
      let g = replacing n i k _ _ row keys vals f.0 r f.1 f.2 f.3 (counted-le k row) in
      tab-ext _ (λ p. settled (get_or row p nan)) 1 k λ p u v. at_own n i k _ _ (counted k row) row keys vals _ f.0 r g p u (omega arith) f.1

  pub replaced-other : (q w : ℕ) → (q ≡ i → ⊥) → w < row_span → Fits → row_of (replaced n i k row keys vals).keys (replaced n i k row keys vals).vals (replaced n i k row keys vals).size w q ≡ row_of keys vals n w q
  unfolding replaced replaced_at row_of
  replaced-other q w h l f =
      let r = row-run keys n i refl refl in
      let g = replacing n i k _ _ row keys vals f.0 r f.1 f.2 f.3 (counted-le k row) in
      tab-ext _ (λ p. cell_at keys vals n (q * row_span + p)) 1 w λ p u v.
      go p u v (ltb q i) refl (at-below n i k _ _ (counted k row) row keys vals _ f.0 r g (q * row_span + p)) (at_above n i k _ _ (counted k row) row keys vals _ f.0 r g (q * row_span + p))
    where
      go : {x y : Float} (p : ℕ) → 1 ≤ p → p < 1 + w → (b : Bool) → ltb q i ≡ b → (q * row_span + p < i * row_span → x ≡ y) → (i * row_span + row_span ≤ q * row_span + p → x ≡ y) → x ≡ y
      go p u v true z c d = let o = ltb-true q i z in c (omega (arith, o, v, l))
      go p u v false z c d = let o = ltb-false q i z in d (omega (arith, o, h, v, l))
