-- Cells that a call may work on: keys ascend, each names a line and a place, and no value is 0.0. There is always room for one row more.
-- A line is a row, or the artificial objective, which stands after the last row.
-- Assumes nothing.
use Prim.Native.Nat.{ℕ, zero, suc, ◌+◌, ◌-◌, ◌*◌, ◌/◌, ◌%◌, ◌≤◌, ◌<◌}
use Rattle.std.specs.Prelude.{◌≡◌, Bool, not, cond, List, Float, length, set}
use Rattle.std.proofs.Math.Path.{refl, subst}
use Rattle.std.proofs.Common.{sym, ◌∙◌, length-set, get_or-set_same, get_or-set_other}
use Rattle.std.proofs.Math.Bool.{true, false}
use native.Mathlib.Omega.{arith}
use Rattle.std.proofs.Math.Dec.{ltb}
use Rattle.std.specs.Float.Ieee.{nan, ne}
use Rattle.std.proofs.Math.ListN.{get_or}
use borrow.Author.Tests.{ltb-true, ltb-false}
use Rattle.steps.specs.Number.{zero64}
use Rattle.steps.specs.Symbol.{absent}
use Rattle.sparse.specs.Places.{most_rows}
use Rattle.layout.specs.cells.Names.{row_span, cell_room, last_place}
use Rattle.layout.specs.cells.Cells.{Ascending, Present, Cells, cells, lower_in, moved, pack_turn, put_if, packed, counted, replaced_at, replaced}
use Rattle.layout.specs.cells.Seek.{run-inv}
use Rattle.layout.specs.cells.Slide.{length_moved, moved_before, moved_in}
use Rattle.layout.specs.cells.Reads.{ascending-lt, RowRun, run-le}
use Rattle.layout.specs.cells.Pack.{Packing, compress-reads}
use Rattle.layout.specs.cells.Replace.{row-run, packed-size}
use Rattle.layout.specs.cells.Replaced.{counted-le, replaced-ascends}
use Rattle.layout.specs.cells.Spots.{Lined}
use Rattle.waist.specs.merging.Merge.{Placed}

pub record Held (lines n : ℕ) (keys : List ℕ) (vals : List Float) : Type 0 where
  pub up : Ascending keys n
  pub present : Present vals n
  pub placed : Placed keys n
  pub low : (j : ℕ) → j < n → row_span ≤ get_or keys j 0
  pub high : (j : ℕ) → j < n → get_or keys j 0 < (lines + 1) * row_span
  pub wide : length keys ≡ cell_room
  pub wides : length vals ≡ cell_room

-- ---- few cells: a key's rank among all keys that there could be

abbrev rank : ℕ → ℕ
rank x = (x / row_span - 1) * last_place + (x % row_span - 1)

rank_up : (x y : ℕ) → x < y → row_span ≤ x → 1 ≤ x % row_span → x % row_span ≤ last_place → 1 ≤ y % row_span → rank x < rank y
rank_up x y h l a b c = omega arith

rank-last : (x lines : ℕ) → x < (lines + 1) * row_span → row_span ≤ x → 1 ≤ x % row_span → x % row_span ≤ last_place → rank x < lines * last_place
rank-last x lines h l a b = omega arith

module _ (lines n : ℕ) (keys : List ℕ) (vals : List Float) (h : Held lines n keys vals) where
  ranked : (j : ℕ) → j < n → j ≤ rank (get_or keys j 0)
  unfolding Placed
  ranked zero l = omega arith
  ranked (suc j) l =
      let b : j < n = omega (arith, l) in
      let i = ranked j b in
      let o = ascending-lt keys n j (suc j) h.up (omega arith) l in
      let r = rank_up (get_or keys j 0) (get_or keys (suc j) 0) o (h.low j b) (h.placed j b).0 (h.placed j b).1 (h.placed (suc j) l).0 in
      omega (arith, i, r)

  pub held-few : n ≤ lines * last_place
  unfolding Placed
  held-few = go (ltb 0 n) refl
    where
      go : (b : Bool) → ltb 0 n ≡ b → n ≤ lines * last_place
      go true q =
          let l = ltb-true 0 n q in
          let b : n - 1 < n = omega (arith, l) in
          let i = ranked (n - 1) b in
          let r = rank-last (get_or keys (n - 1) 0) lines (h.high (n - 1) b) (h.low (n - 1) b) (h.placed (n - 1) b).0 (h.placed (n - 1) b).1 in
          omega (arith, i, r, l)
      go false q = omega (arith, ltb-false 0 n q)

  pub held-room : lines ≤ most_rows → n + last_place ≤ cell_room
  held-room l = let f = held-few in omega (arith, f, l)

  pub held-lined : lines ≤ most_rows → Lined keys n
  unfolding Lined
  held-lined l j b = let k = h.high j b in omega (arith, k, l)

-- ---- what is laid down is not 0.0

is-there : (x : Float) → ne x zero64 ≡ true → absent x ≡ false
unfolding ne absent
is-there x h = flip _ h
  where
    flip : (b : Bool) → not b ≡ true → b ≡ false
    flip false q = refl
    flip true q = sym q

record Presents (at p : ℕ) (vals : List Float) (t : Cells) : Type 0 where
  begun : at ≤ t.size
  room : t.size + 1 ≤ at + p
  wides : length t.vals ≡ length vals
  there : (j : ℕ) → at ≤ j → j < t.size → absent (get_or t.vals j nan) ≡ false

presents-turn : (i at p : ℕ) (row vals : List Float) (t : Cells) → at + p ≤ length vals → Presents at p vals t → Presents at (suc p) vals (pack_turn i row p t)
unfolding pack_turn put_if
presents-turn i at p row vals t c h = go (ne (get_or row p nan) zero64) refl
  where
    go : (b : Bool) → ne (get_or row p nan) zero64 ≡ b → Presents at (suc p) vals (cond b (cells (set t.keys t.size (i * row_span + p)) (set t.vals t.size (get_or row p nan)) (t.size + 1)) t)
    go false e = record { begun = h.begun; room = omega (arith, h.room); wides = h.wides; there = h.there }
    go true e =
        record {
          begun = omega (arith, h.begun);
          room = omega (arith, h.room);
          wides = length-set t.vals t.size (get_or row p nan) ∙ h.wides;
          there = λ j u v. here j u v (ltb j t.size) refl;
        }
      where
        here : (j : ℕ) → at ≤ j → j < t.size + 1 → (b : Bool) → ltb j t.size ≡ b → absent (get_or (set t.vals t.size (get_or row p nan)) j nan) ≡ false
        here j u v true q =
            let l = ltb-true j t.size q in
            rw (get_or-set_other t.vals t.size j (get_or row p nan) nan (λ z. omega (arith, z, l))) (h.there j u l)
        here j u v false q =
            let o : t.size ≡ j = omega (arith, v, ltb-false j t.size q) in
            let s : get_or (set t.vals t.size (get_or row p nan)) t.size nan ≡ get_or row p nan = get_or-set_same t.vals t.size (get_or row p nan) nan (omega (arith, h.room, h.wides, c)) in
            subst (λ (z : ℕ). absent (get_or (set t.vals t.size (get_or row p nan)) z nan) ≡ false) o (rw s (is-there (get_or row p nan) e))

pub packed-present : (k i at : ℕ) (row : List Float) (keys : List ℕ) (vals : List Float) → at + k ≤ length vals → (j : ℕ) → at ≤ j → j < (packed k i row (cells keys vals at)).size → absent (get_or (packed k i row (cells keys vals at)).vals j nan) ≡ false
unfolding packed
packed-present k i at row keys vals c =
    (run-inv (λ (p : ℕ) (t : Cells). Presents at p vals t) (pack_turn i row) 1 (k + 1) (cells keys vals at) (omega arith) (λ p t u v h. presents-turn i at p row vals t (omega (arith, v, c)) h)
    record { begun = omega arith; room = omega arith; wides = refl; there = λ j u v. absurd (omega (arith, u, v)) }
    ).there

-- ---- a line laid down anew

module _ (lines n i k : ℕ) (row : List Float) (keys : List ℕ) (vals : List Float) (h : Held lines n keys vals) (first : 1 ≤ i) (last : i ≤ lines) (kw : k ≤ last_place) (room : n + k ≤ cell_room) where
  abbrev a : ℕ
  a = lower_in keys (i * row_span) 0 n

  abbrev e : ℕ
  e = lower_in keys (i * row_span + row_span) 0 n

  abbrev m : ℕ
  m = counted k row

  abbrev ks : List ℕ
  ks = moved e (a + m) (n - e) keys

  abbrev vs : List Float
  vs = moved e (a + m) (n - e) vals

  abbrev t : Cells
  t = packed k i row (cells ks vs a)

  r : RowRun keys n i a e
  r = row-run keys n i refl refl

  ends : (a ≤ e) × (e ≤ n) × (m ≤ k)
  ends = (run-le keys n i a e r, r.1.1, counted-le k row)

  tight : (e + (n - e) ≤ length keys) × (a + m + (n - e) ≤ length keys) × (e + (n - e) ≤ length vals) × (a + m + (n - e) ≤ length vals)
  tight =
      let f = ends in
      let wd = h.wide in
      let ws = h.wides in
      (omega (arith, f, wd, room), omega (arith, f, wd, room), omega (arith, f, ws, room), omega (arith, f, ws, room))

  ks-wide : length ks ≡ cell_room
  ks-wide = length_moved e (a + m) (n - e) keys tight.0 tight.1 ∙ h.wide

  vs-wide : length vs ≡ cell_room
  vs-wide = length_moved e (a + m) (n - e) vals tight.2 tight.3 ∙ h.wides

  p : Packing i a row ks vs (k + 1) t
  p = let f = ends in let u = ks-wide in let v = vs-wide in compress-reads k i a row ks vs (omega (arith, f, u, room)) (omega (arith, f, v, room))

  size : t.size ≡ a + m
  size = packed-size k i a row ks vs

  -- a key of the tables after: one before the line, one of the line, or one past it
  each : (P : ℕ → Type 0) → ((j : ℕ) → j < n → P (get_or keys j 0)) → ((x : ℕ) → i * row_span < x → x < i * row_span + (k + 1) → P x) → (j : ℕ) → j < n - e + (a + m) → P (get_or t.keys j 0)
  each P old new j l = go (ltb j a) refl (ltb j (a + m)) refl
    where
      go : (b : Bool) → ltb j a ≡ b → (c : Bool) → ltb j (a + m) ≡ c → P (get_or t.keys j 0)
      go true q c s =
          let u = ltb-true j a q in
          let f = ends in
          subst P (sym (p.before j u ∙ moved_before e (a + m) (n - e) keys j 0 tight.0 tight.1 (omega (arith, u)))) (old j (omega (arith, u, f)))
      go false q true s =
          let u = ltb-false j a q in
          let v = ltb-true j (a + m) s in
          let z = size in
          new (get_or t.keys j 0) (p.low j u (omega (arith, v, z))) (p.high j u (omega (arith, v, z)))
      go false q false s =
          let v = ltb-false j (a + m) s in
          let z = size in
          let f = ends in
          let o : a + m + (j - (a + m)) ≡ j = omega (arith, v) in
          let w : get_or t.keys (a + m + (j - (a + m))) 0 ≡ get_or keys (e + (j - (a + m))) 0 = p.after (a + m + (j - (a + m))) (omega (arith, z)) ∙ moved_in e (a + m) (n - e) keys (j - (a + m)) 0 tight.0 tight.1 (omega (arith, l, v)) in
          subst (λ (y : ℕ). P (get_or t.keys y 0)) o (subst P (sym w) (old (e + (j - (a + m))) (omega (arith, l, v, f))))

  there : (j : ℕ) → j < n - e + (a + m) → absent (get_or t.vals j nan) ≡ false
  unfolding Present
  there j l = go (ltb j a) refl (ltb j (a + m)) refl
    where
      go : (b : Bool) → ltb j a ≡ b → (c : Bool) → ltb j (a + m) ≡ c → absent (get_or t.vals j nan) ≡ false
      go true q c s =
          let u = ltb-true j a q in
          let f = ends in
          rw (p.befores j u ∙ moved_before e (a + m) (n - e) vals j nan tight.2 tight.3 (omega (arith, u))) (h.present j (omega (arith, u, f)))
      go false q true s =
          let z = size in
          let f = ends in
          let v = vs-wide in
          packed-present k i a row ks vs (omega (arith, f, v, room)) j (ltb-false j a q) (omega (arith, ltb-true j (a + m) s, z))
      go false q false s =
          let v = ltb-false j (a + m) s in
          let z = size in
          let f = ends in
          let o : a + m + (j - (a + m)) ≡ j = omega (arith, v) in
          let w : get_or t.vals (a + m + (j - (a + m))) nan ≡ get_or vals (e + (j - (a + m))) nan = p.afters (a + m + (j - (a + m))) (omega (arith, z)) ∙ moved_in e (a + m) (n - e) vals (j - (a + m)) nan tight.2 tight.3 (omega (arith, l, v)) in
          subst (λ (y : ℕ). absent (get_or t.vals y nan) ≡ false) o (rw w (h.present (e + (j - (a + m))) (omega (arith, l, v, f))))

  fresh-place : (x : ℕ) → i * row_span < x → x < i * row_span + (k + 1) → (1 ≤ x % row_span) × (x % row_span ≤ last_place)
  fresh-place x u v = (omega (arith, u, v, kw), omega (arith, u, v, kw))

  pub held-replaced : Held lines (replaced n i k row keys vals).size (replaced n i k row keys vals).keys (replaced n i k row keys vals).vals
  unfolding replaced replaced_at Placed Present
  held-replaced =
      let z = size in
      let f = ends in
      record {
        up = ascends;
        present = there;
        placed = each (λ x. (1 ≤ x % row_span) × (x % row_span ≤ last_place)) h.placed fresh-place;
        low = each (λ x. row_span ≤ x) h.low λ x u v. omega (arith, u, first);
        high = each (λ x. x < (lines + 1) * row_span) h.high λ x u v. omega (arith, v, last, kw);
        wide = p.wide ∙ ks-wide;
        wides = p.wides ∙ vs-wide;
      }
    where
      ascends : Ascending (replaced n i k row keys vals).keys (replaced n i k row keys vals).size
      ascends =
          let wd = h.wide in
          let ws = h.wides in
          replaced-ascends n i k row keys vals (h.up, omega (arith, kw), omega (arith, wd, room), omega (arith, ws, room))
