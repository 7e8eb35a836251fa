-- No cell comes to stand past the live symbols: a line merged, laid down anew, gone or come names places that were named, or places of the row.
-- Assumes nothing.
use Rattle.std.specs.Prelude.{ℕ, ◌+◌, ◌-◌, ◌*◌, ◌/◌, ◌%◌, ◌≤◌, ◌<◌, ◌≡◌, Bool, List, eqb, Float, length}
use Rattle.std.proofs.Math.Path.{refl, sym}
use Rattle.std.proofs.Common.{ap, ◌∙◌, subst, arith}
use Rattle.std.proofs.Math.Bool.{true, false, cond}
use Rattle.std.proofs.lemmas.Bool.{false≢true}
use Rattle.std.proofs.Math.Dec.{ltb}
use Rattle.std.specs.Float.{nan}
use Rattle.std.proofs.Math.ListN.{get_or}
use borrow.Author.Tests.{ltb-true, ltb-false, eqb-true, eqb-false}
use Rattle.laws.specs.Lists.{get_or-tab}
use Rattle.steps.specs.Number.{zero64}
use Rattle.steps.specs.Symbol.{absent}
use Rattle.sparse.specs.Places.{most_rows}
use Rattle.layout.specs.cells.Names.{row_span, last_place}
use Rattle.layout.specs.cells.Cells.{Ascending, Present, Cells, cells, lower_in, cell_in, cell_at, row_of, moved, packed, settled, counted, replaced_at, replaced}
use Rattle.layout.specs.cells.Seek.{run-inv}
use Rattle.layout.specs.cells.Slide.{length_moved}
use Rattle.layout.specs.cells.Reads.{RowRun, run-le, cell-here, cell-absent, cell-run}
use Rattle.layout.specs.cells.Pack.{Packing, compress-reads}
use Rattle.layout.specs.cells.Replace.{row-run, packed-size, Replacing, replacing}
use Rattle.layout.specs.cells.Replaced.{counted-le, replaced-own, replaced-other}
use Rattle.layout.specs.cells.Column.{zero-absent}
use Rattle.waist.specs.merging.Merge.{Placed, own_value, own_cell, other_cell, merged_row, own_in, merged_into}
use Rattle.waist.specs.merging.Merging.{inserted-none, row_at}
use Rattle.waist.specs.merging.Substituted.{settled-absent}
use Rattle.waist.specs.substituting.Held.{Held, held-room}
use Rattle.waist.specs.substituting.Lines.{Lines, held_by, line_with, line_in, lines_in, HeldIn, held-line}

-- no key of the first n names a place past w
abbrev pub Within : ℕ → List ℕ → ℕ → Type 0
Within w keys n = (j : ℕ) → j < n → get_or keys j 0 % row_span ≤ w

-- ---- by what is read: past w every cell is absent

abbrev Bare : ℕ → List ℕ → List Float → ℕ → Type 0
Bare w keys vals n = (i p : ℕ) → w < p → p ≤ last_place → cell_at keys vals n (i * row_span + p) ≡ zero64

bare_of : (w : ℕ) (keys : List ℕ) (vals : List Float) (n : ℕ) → Within w keys n → Bare w keys vals n
unfolding cell_at
bare_of w keys vals n h i p a b = cell-absent keys vals (i * row_span + p) 0 n (omega arith) (λ j u v e. let l = h j v in omega (arith, l, e, a, b))

within_of : (w lines : ℕ) (keys : List ℕ) (vals : List Float) (n : ℕ) → Held lines n keys vals → Bare w keys vals n → Within w keys n
unfolding cell_at Present Placed
within_of w lines keys vals n h b j l = go (ltb w (get_or keys j 0 % row_span)) refl
  where
    go : (z : Bool) → ltb w (get_or keys j 0 % row_span) ≡ z → get_or keys j 0 % row_span ≤ w
    go false e = ltb-false w (get_or keys j 0 % row_span) e
    go true e =
        let o : get_or keys j 0 / row_span * row_span + get_or keys j 0 % row_span ≡ get_or keys j 0 = omega arith in
        let c : cell_in keys vals (get_or keys j 0 / row_span * row_span + get_or keys j 0 % row_span) 0 n ≡ zero64 = b (get_or keys j 0 / row_span) (get_or keys j 0 % row_span) (ltb-true w (get_or keys j 0 % row_span) e) (h.placed j l).1 in
        let d : cell_in keys vals (get_or keys j 0) 0 n ≡ zero64 = rw o at c in
        let f : get_or vals j nan ≡ zero64 = sym (cell-here keys vals n 0 n j h.up (omega arith) l (omega arith)) ∙ d in
        absurd (false≢true (sym (h.present j l) ∙ ap absent f ∙ zero-absent))

cell-of : (keys : List ℕ) (vals : List Float) (n i p : ℕ) → 1 ≤ p → p ≤ last_place → get_or (row_of keys vals n last_place i) (p - 1) nan ≡ cell_at keys vals n (i * row_span + p)
unfolding row_of
cell-of keys vals n i p a b =
    let o : 1 + (p - 1) ≡ p = omega (arith, a) in
    get_or-tab (λ q. cell_at keys vals n (i * row_span + q)) 1 last_place (p - 1) nan (omega (arith, a, b)) ∙ ap (λ (q : ℕ). cell_at keys vals n (i * row_span + q)) o

-- ---- merged lines

module _ (cutoff : Float) (w at m : ℕ) (y : Float) (cols : List ℕ) (others : List Float) (past : (p : ℕ) → w < p → p ≤ last_place → other_cell cols others m p ≡ zero64) (count : ℕ) (few : count ≤ most_rows) where
  abbrev BareIn : Lines → Type 0
  BareIn s = Bare w s.keys s.vals s.size

  module _ (s : Lines) (h : HeldIn count s) (b : BareIn s) (i : ℕ) (k : Float) where
    abbrev own : ℕ → Float
    own = own_in s.size i at s.keys s.vals

    own-none : (p : ℕ) → w < p → p ≤ last_place → own p ≡ zero64
    unfolding own_in own_cell own_value
    own-none p u v =
        let c = sym (cell-run s.keys s.vals s.size i _ _ p h.up (row-run s.keys s.size i refl refl) (omega (arith, v))) ∙ b i p u v in
        rw c (both (eqb p at))
      where
        both : (z : Bool) → cond z zero64 zero64 ≡ zero64
        both true = refl
        both false = refl

    abbrev c : Cells
    c = merged_into cutoff s.size i at m k s.keys s.vals cols others

    room : s.size + last_place ≤ length s.keys
    room = let f = held-room count s.size s.keys s.vals h few in let v = h.wide in omega (arith, f, v)

    rooms : s.size + last_place ≤ length s.vals
    rooms = let f = held-room count s.size s.keys s.vals h few in let v = h.wides in omega (arith, f, v)

    merged-bare : Bare w c.keys c.vals c.size
    unfolding merged_into
    merged-bare q p u v = go (eqb q i) refl
      where
        low : 1 ≤ p
        low = omega (arith, u)

        go : (z : Bool) → eqb q i ≡ z → cell_at c.keys c.vals c.size (q * row_span + p) ≡ zero64
        go true e =
            let o = eqb-true q i e in
            let x : p - 1 < last_place = omega (arith, v, low) in
            let f : 1 + (p - 1) ≡ p = omega (arith, low) in
            subst (λ (z : ℕ). cell_at c.keys c.vals c.size (z * row_span + p) ≡ zero64) (sym o)
            (sym (cell-of c.keys c.vals c.size i p low v)
            ∙ ap (λ (l : List Float). get_or l (p - 1) nan) (replaced-own s.size i last_place (merged_row cutoff k own (other_cell cols others m)) s.keys s.vals (h.up, omega arith, room, rooms))
            ∙ get_or-tab (λ x. settled (get_or (merged_row cutoff k own (other_cell cols others m)) x nan)) 1 last_place (p - 1) nan x
            ∙ ap (λ (x : ℕ). settled (get_or (merged_row cutoff k own (other_cell cols others m)) x nan)) f
            ∙ ap settled (row_at cutoff k own (other_cell cols others m) p low v ∙ rw (past p u v, own-none p u v) (inserted-none cutoff k zero64))
            ∙ settled-absent zero64 zero-absent)
        go false e =
            sym (cell-of c.keys c.vals c.size q p low v)
            ∙ ap (λ (l : List Float). get_or l (p - 1) nan) (replaced-other s.size i last_place (merged_row cutoff k own (other_cell cols others m)) s.keys s.vals q last_place (eqb-false q i e) (omega arith) (h.up, omega arith, room, rooms))
            ∙ cell-of s.keys s.vals s.size q p low v
            ∙ b q p u v

  line-bare : (s : Lines) → HeldIn count s → BareIn s → (i : ℕ) → BareIn (line_in cutoff at m y cols others i s)
  unfolding line_in line_with
  line-bare s h b i = go (absent (held_by cutoff at m y cols others i s))
    where
      go : (z : Bool) → BareIn (cond z s (line_with cutoff at m y cols others (held_by cutoff at m y cols others i s) i s))
      go true = b
      go false = merged-bare s h b i (held_by cutoff at m y cols others i s)

  pub lines-within : (s : Lines) → HeldIn count s → Within w s.keys s.size → Within w (lines_in cutoff at m y cols others count s).keys (lines_in cutoff at m y cols others count s).size
  unfolding lines_in
  lines-within s h b =
      let r = run-inv (λ (i : ℕ) (t : Lines). HeldIn count t × BareIn t) (line_in cutoff at m y cols others) 1 (count + 1) s (omega arith) (λ i t u v g. (held-line cutoff at m y cols others count i few u (omega (arith, v)) t g.0, line-bare t g.0 g.1 i)) (h, bare_of w s.keys s.vals s.size b) in
      within_of w count _ _ _ r.0 r.1

-- ---- a line laid down anew, k places wide

module _ (n i k : ℕ) (row : List Float) (keys : List ℕ) (vals : List Float) (up : Ascending keys n) (kw : k < row_span) (lk : n + k ≤ length keys) (lv : n + k ≤ length vals) where
  abbrev a : ℕ
  a = lower_in keys (i * row_span) 0 n

  abbrev e : ℕ
  e = lower_in keys (i * row_span + row_span) 0 n

  abbrev m : ℕ
  m = counted k row

  abbrev ks : List ℕ
  ks = moved e (a + m) (n - e) keys

  abbrev vs : List Float
  vs = moved e (a + m) (n - e) vals

  abbrev t : Cells
  t = packed k i row (cells ks vs a)

  run : RowRun keys n i a e
  run = row-run keys n i refl refl

  ends : (a ≤ e) × (e ≤ n) × (m ≤ k)
  ends = (run-le keys n i a e run, run.1.1, counted-le k row)

  laid : Replacing n i k a e m row keys vals t
  laid = replacing n i k a e row keys vals up run kw lk lv (counted-le k row)

  fresh : Packing i a row ks vs (k + 1) t
  fresh =
      let f = ends in
      let u = length_moved e (a + m) (n - e) keys (omega (arith, f, lk)) (omega (arith, f, lk)) in
      let v = length_moved e (a + m) (n - e) vals (omega (arith, f, lv)) (omega (arith, f, lv)) in
      compress-reads k i a row ks vs (omega (arith, f, u, lk)) (omega (arith, f, v, lv))

  pub within-replaced : Within k keys n → Within k (replaced n i k row keys vals).keys (replaced n i k row keys vals).size
  unfolding replaced replaced_at
  within-replaced h j l = go (ltb j a) refl (ltb j (a + m)) refl
    where
      go : (b : Bool) → ltb j a ≡ b → (c : Bool) → ltb j (a + m) ≡ c → get_or t.keys j 0 % row_span ≤ k
      go true q c s =
          let u = ltb-true j a q in
          let f = ends in
          rw (laid.lead j u) (h j (omega (arith, u, f)))
      go false q true s =
          let u = ltb-false j a q in
          let v = ltb-true j (a + m) s in
          let z = packed-size k i a row ks vs in
          let x = fresh.low j u (omega (arith, v, z)) in
          let y = fresh.high j u (omega (arith, v, z)) in
          omega (arith, x, y, kw)
      go false q false s =
          let v = ltb-false j (a + m) s in
          let f = ends in
          let o : a + m + (j - (a + m)) ≡ j = omega (arith, v) in
          let g : j - (a + m) < n - e = omega (arith, l, v) in
          let x : get_or t.keys (a + m + (j - (a + m))) 0 ≡ get_or keys (e + (j - (a + m))) 0 = laid.tail (j - (a + m)) g in
          let y : get_or t.keys j 0 ≡ get_or keys (e + (j - (a + m))) 0 = rw o at x in
          rw y (h (e + (j - (a + m))) (omega (arith, g, f)))
