-- Dense rows laid down as cells, one after the other, read back as those rows.
-- Assumes nothing.
use Prim.Native.Nat.{ℕ, zero, suc, ◌+◌, ◌-◌, ◌*◌, ◌≤◌, ◌<◌}
use Rattle.std.specs.Prelude.{◌≡◌, Bool, true, false, ltb, length}
use Rattle.std.proofs.Math.Path.{refl, subst}
use Rattle.std.proofs.Common.{sym, ap, ◌∙◌, add-zero, ltb-true, ltb-false}
use mathlib.Core.List.{List, [], ◌∷◌}
use native.Mathlib.Omega.{arith}
use Rattle.std.specs.Float.Ieee.{Float, nan}
use Rattle.std.proofs.Math.ListN.{get_or}
use Rattle.laws.specs.Lists.{tab, tab-ext, tab-get_or}
use Rattle.steps.specs.Number.{zero64}
use Rattle.layout.specs.cells.Names.{row_span}
use Rattle.layout.specs.cells.Cells.{Ascending, Cells, cells, cell_in, cell_at, row_of, packed, counted, settled}
use Rattle.layout.specs.cells.Reads.{ascending-lt, cell-within}
use Rattle.layout.specs.cells.Pack.{Packing, compress-reads}
use Rattle.layout.specs.cells.Replace.{packed-size}
use Rattle.layout.specs.cells.Replaced.{counted-le}
use Rattle.sparse.specs.Laying.{rows_laid, Room, Laid, Settled}

module _ (k i : ℕ) (t : Cells) (row : List Float) (f : ℕ → List Float) (w : k < row_span) (g : Laid k i t f) (e : f i ≡ row) (lk : t.size + k ≤ length t.keys) (lv : t.size + k ≤ length t.vals) where
  abbrev t' : Cells
  t' = packed k i row t

  pk : Packing i t.size row t.keys t.vals (k + 1) t'
  pk = compress-reads k i t.size row t.keys t.vals lk lv

  next-below : (j : ℕ) → j < t'.size → get_or t'.keys j 0 < suc i * row_span
  next-below j h = go (ltb j t.size) refl
    where
      go : (b : Bool) → ltb j t.size ≡ b → get_or t'.keys j 0 < suc i * row_span
      go true q =
          let l = ltb-true j t.size q in
          let a = pk.before j l in
          let b = g.below j l in
          omega (arith, a, b)
      go false q = let a = pk.high j (ltb-false j t.size q) h in omega (arith, a, w)

  next_up : (x y : ℕ) → x < y → y < t'.size → get_or t'.keys x 0 < get_or t'.keys y 0
  next_up x y h l = go (ltb y t.size) refl (ltb x t.size) refl
    where
      go : (b : Bool) → ltb y t.size ≡ b → (c : Bool) → ltb x t.size ≡ c → get_or t'.keys x 0 < get_or t'.keys y 0
      go true q c r =
          let v = ltb-true y t.size q in
          let o = ascending-lt t.keys t.size x y g.up h v in
          omega (arith, o, pk.before x (omega (arith, h, v)), pk.before y v)
      go false q true r =
          let v = ltb-true x t.size r in
          let o = g.below x v in
          let a = pk.low y (ltb-false y t.size q) l in
          omega (arith, o, a, pk.before x v)
      go false q false r = pk.up x y (ltb-false x t.size r) h l

  next-reads : (q p : ℕ) → q < suc i → 1 ≤ q → 1 ≤ p → p ≤ k → cell_at t'.keys t'.vals t'.size (q * row_span + p) ≡ settled (get_or (f q) p nan)
  unfolding cell_at
  next-reads q p h a b c = go (ltb q i) refl
    where
      bg : t.size ≤ t'.size
      bg = pk.begun

      go : (d : Bool) → ltb q i ≡ d → cell_in t'.keys t'.vals (q * row_span + p) 0 t'.size ≡ settled (get_or (f q) p nan)
      go true z =
          let l = ltb-true q i z in
          cell-within t'.keys t.keys t'.vals t.vals (q * row_span + p) 0 0 t.size t'.size (omega arith) (omega arith) bg (λ j u v. pk.before j v) (λ j u v. pk.befores j v) (λ j u v x. omega (arith, u, v))
          (λ j u v x. let y = pk.low j u v in omega (arith, x, y, l, c, w))
          ∙ g.reads q p l a b c
      go false z =
          let o : i ≡ q = omega (arith, h, ltb-false q i z) in
          subst (λ (y : ℕ). cell_in t'.keys t'.vals (y * row_span + p) 0 t'.size ≡ settled (get_or (f y) p nan)) o
          (cell-within t'.keys t'.keys t'.vals t'.vals (i * row_span + p) 0 t.size t'.size t'.size (omega arith) bg (omega arith) (λ j u v. refl) (λ j u v. refl)
          (λ j u v x. let y = g.below j v in let n = pk.before j v in omega (arith, x, y, n))
          (λ j u v x. omega (arith, u, v))
          ∙ pk.reads p b (omega (arith, c))
          ∙ ap (λ (r : List Float). settled (get_or r p nan)) (sym e))

  pub laid_next : Laid k (suc i) t' f
  unfolding Ascending
  laid_next = record { up = next_up; below = next-below; reads = next-reads }

pub laid-all : (k : ℕ) (rs : List (List Float)) (i : ℕ) (t : Cells) (f : ℕ → List Float) → k < row_span → ((q : ℕ) → q < length rs → f (i + q) ≡ zero64 ∷ get_or rs q []) → Room k rs t.size (length t.keys) → length t.vals ≡ length t.keys → Laid k i t f
    → Laid k (i + length rs) (rows_laid k i rs t) f
unfolding rows_laid Room
laid-all k [] i t f w h r l g = subst (λ (z : ℕ). Laid k z t f) (sym (add-zero i)) g
laid-all k (r ∷ rs) i t f w h room l g =
    let row : List Float = zero64 ∷ r in
    let e : f i ≡ row = rw (add-zero i) at (h 0 (omega arith)) in
    let lk = room.0 in
    let lv : t.size + k ≤ length t.vals = rw l lk in
    let p : Packing i t.size row t.keys t.vals (k + 1) (packed k i row t) = compress-reads k i t.size row t.keys t.vals lk lv in
    let z : (packed k i row t).size ≡ t.size + counted k row = packed-size k i t.size row t.keys t.vals in
    let o : suc i + length rs ≡ i + length (r ∷ rs) = omega arith in
    let room₁ : Room k rs (packed k i row t).size (length (packed k i row t).keys) = rw (z, p.wide) room.1 in
    let n = laid-all k rs (suc i) (packed k i row t) f w (λ q u. let o₁ : suc i + q ≡ i + suc q = omega arith in rw o₁ (h (suc q) (omega (arith, u)))) room₁ (p.wides ∙ l ∙ sym p.wide) (laid_next k i t row f w g e lk lv) in
    subst (λ (y : ℕ). Laid k y (rows_laid k (suc i) rs (packed k i row t)) f) o n

tab-shift : (g : ℕ → Float) (i n : ℕ) → tab (λ j. g (suc j)) i n ≡ tab g (suc i) n
unfolding tab
tab-shift g i zero = refl
tab-shift g i (suc n) = ap (λ (r : List Float). g (suc i) ∷ r) (tab-shift g (suc i) n)

ascends_none : (keys : List ℕ) → Ascending keys 0
unfolding Ascending
ascends_none keys a b h k = absurd (omega (arith, k))

-- a list read past one more element
shifted : (r : List Float) (k : ℕ) → length r ≡ k → tab (λ p. get_or (zero64 ∷ r) p nan) 1 k ≡ r
shifted r k n = rw (← n) (sym (tab-shift (λ p. get_or (zero64 ∷ r) p nan) 0 (length r)) ∙ tab-get_or r nan)

-- ---- the law

module _ (k : ℕ) (rs : List (List Float)) (keys : List ℕ) (vals : List Float) (w : k < row_span) (room : Room k rs 0 (length keys)) (l : length vals ≡ length keys) where
  abbrev t : Cells
  t = rows_laid k 1 rs (cells keys vals 0)

  abbrev f : ℕ → List Float
  f q = zero64 ∷ get_or rs (q - 1) []

  laid : Laid k (1 + length rs) t f
  laid =
      laid-all k rs 1 (cells keys vals 0) f w (λ q h. let o : 1 + q - 1 ≡ q = omega arith in rw o refl) room l
      record { up = none; below = λ j h. absurd (omega (arith, h)); reads = λ q p h a b c. absurd (omega (arith, h, a)) }
    where
      none : Ascending keys 0
      none = ascends_none keys

  pub rows-ascend : Ascending t.keys t.size
  rows-ascend = laid.up

  pub rows_back : (q : ℕ) → q < length rs → length (get_or rs q []) ≡ k → Settled rs k → row_of t.keys t.vals t.size k (1 + q) ≡ get_or rs q []
  unfolding row_of
  rows_back q h n s =
      let o : 1 + q - 1 ≡ q = omega arith in
      let r : List Float = get_or rs q [] in
      let each : (p : ℕ) → 1 ≤ p → p < 1 + k → cell_at t.keys t.vals t.size ((1 + q) * row_span + p) ≡ get_or (zero64 ∷ r) p nan = λ p a b.
      laid.reads (1 + q) p (omega (arith, h)) (omega arith) a (omega (arith, b)) ∙ back p a b in
      tab-ext _ (λ p. get_or (zero64 ∷ r) p nan) 1 k each ∙ shifted r k n
    where
      back : (p : ℕ) → 1 ≤ p → p < 1 + k → settled (get_or (f (1 + q)) p nan) ≡ get_or (zero64 ∷ get_or rs q []) p nan
      back p a b =
          let o : 1 + q - 1 ≡ q = omega arith in
          let d : p ≡ suc (p - 1) = omega (arith, a) in
          subst (λ (y : ℕ). settled (get_or (zero64 ∷ get_or rs (1 + q - 1) []) y nan) ≡ get_or (zero64 ∷ get_or rs q []) y nan) (sym d) (rw o (s q (p - 1) h (omega (arith, a, b))))

-- ---- room for rows: 129 cells each

pub room_fits : (k : ℕ) (rs : List (List Float)) (at n : ℕ) → k ≤ 129 → at + length rs * 129 ≤ n → Room k rs at n
unfolding Room
room_fits k [] at n h g = tt
room_fits k (r ∷ rs) at n h g =
    let c = counted-le k (zero64 ∷ r) in
    (omega (arith, h, g), room_fits k rs (at + counted k (zero64 ∷ r)) n h (omega (arith, h, g, c)))
