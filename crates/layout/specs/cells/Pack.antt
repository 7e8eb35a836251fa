-- A dense row laid down as a run of its present cells.
-- Assumes nothing.
use Rattle.std.specs.Prelude.{ℕ, suc, ◌+◌, ◌*◌, ◌≤◌, ◌<◌, ◌≡◌, refl, Bool, true, false, cond, List, ltb, Float, length, get_or, set}
use Rattle.std.proofs.Common.{sym, ◌∙◌, subst, arith, length-set, get_or-set_same, get_or-set_other, ltb-true, ltb-false}
use Rattle.std.specs.Float.{nan}
use Rattle.std.specs.Float.Ieee.{ne}
use Rattle.steps.specs.Number.{zero64}
use Rattle.layout.specs.cells.Names.{row_span}
use Rattle.layout.specs.cells.Cells.{Cells, cells, put_if, pack_turn, packed, settled, cell_in}
use Rattle.layout.specs.cells.Seek.{run-inv}
use Rattle.layout.specs.cells.Reads.{cell-at, cell-absent, cell-within}

pub put_on : (key : ℕ) (x : Float) (s : Cells) → ne x zero64 ≡ true → cells (set s.keys s.size key) (set s.vals s.size x) (s.size + 1) ≡ put_if key x s
unfolding put_if
put_on key x s h = rw h

pub put-off : (key : ℕ) (x : Float) (s : Cells) → ne x zero64 ≡ false → s ≡ put_if key x s
unfolding put_if
put-off key x s h = rw h

pub pack-turn : (i base p : ℕ) (row : List Float) (s : Cells) {t : Cells} → base ≡ i * row_span → t ≡ put_if (base + p) (get_or row p nan) s → t ≡ pack_turn i row p s
unfolding pack_turn
pack-turn i base p row s h q = rw h at q

-- ---- what the run reads as

-- the cells of the places 1 up to p stand from place `at` on, and nothing else has changed
pub record Packing (i at : ℕ) (row : List Float) (keys : List ℕ) (vals : List Float) (p : ℕ) (t : Cells) : Type 0 where
  pub begun : at ≤ t.size
  pub room : t.size + 1 ≤ at + p
  pub wide : length t.keys ≡ length keys
  pub wides : length t.vals ≡ length vals
  pub reads : (q : ℕ) → 1 ≤ q → q < p → cell_in t.keys t.vals (i * row_span + q) at t.size ≡ settled (get_or row q nan)
  pub low : (j : ℕ) → at ≤ j → j < t.size → i * row_span < get_or t.keys j 0
  pub high : (j : ℕ) → at ≤ j → j < t.size → get_or t.keys j 0 < i * row_span + p
  pub up : (a b : ℕ) → at ≤ a → a < b → b < t.size → get_or t.keys a 0 < get_or t.keys b 0
  pub before : (j : ℕ) → j < at → get_or t.keys j 0 ≡ get_or keys j 0
  pub befores : (j : ℕ) → j < at → get_or t.vals j nan ≡ get_or vals j nan
  pub after : (j : ℕ) → t.size ≤ j → get_or t.keys j 0 ≡ get_or keys j 0
  pub afters : (j : ℕ) → t.size ≤ j → get_or t.vals j nan ≡ get_or vals j nan

-- a fact of what lies below p, and of p
upto : (P : ℕ → Type 0) (p q : ℕ) → q < suc p → (q < p → P q) → P p → P q
upto P p q h f g = go (ltb q p) refl
  where
    go : (b : Bool) → ltb q p ≡ b → P q
    go true e = f (ltb-true q p e)
    go false e =
        let o : p ≡ q = omega (arith, h, ltb-false q p e) in
        subst P o g

off : (i at : ℕ) (row : List Float) (keys : List ℕ) (vals : List Float) (p : ℕ) (t : Cells) → ne (get_or row p nan) zero64 ≡ false → 1 ≤ p → Packing i at row keys vals p t → Packing i at row keys vals (suc p) t
unfolding settled
off i at row keys vals p t n l h =
    record {
      begun = h.begun;
      room = let u = h.room in omega (arith, u);
      wide = h.wide;
      wides = h.wides;
      reads = λ q a b. upto (λ (q : ℕ). cell_in t.keys t.vals (i * row_span + q) at t.size ≡ settled (get_or row q nan)) p q b (h.reads q a)
          (rw n (cell-absent t.keys t.vals (i * row_span + p) at t.size h.begun λ j u v e. let w = h.high j u v in omega (arith, w, e)));
      low = h.low;
      high = λ j u v. let w = h.high j u v in omega (arith, w);
      up = h.up;
      before = h.before;
      befores = h.befores;
      after = h.after;
      afters = h.afters;
    }

on : (i at : ℕ) (row : List Float) (keys : List ℕ) (vals : List Float) (p : ℕ) (t : Cells) → ne (get_or row p nan) zero64 ≡ true → 1 ≤ p → at + p ≤ length keys → at + p ≤ length vals → Packing i at row keys vals p t
    → Packing i at row keys vals (suc p) (cells (set t.keys t.size (i * row_span + p)) (set t.vals t.size (get_or row p nan)) (t.size + 1))
unfolding settled
on i at row keys vals p t n l c d h =
    let s : ℕ = t.size in
    let x : Float = get_or row p nan in
    let ks : List ℕ = set t.keys s (i * row_span + p) in
    let vs : List Float = set t.vals s x in
    let hr = h.room in
    let hb = h.begun in
    let same : get_or ks s 0 ≡ i * row_span + p = get_or-set_same t.keys s (i * row_span + p) 0 (omega (arith, h.wide, hr, c)) in
    let sames : get_or vs s nan ≡ x = get_or-set_same t.vals s x nan (omega (arith, h.wides, hr, d)) in
    let other : (j : ℕ) → (j ≡ s → ⊥) → get_or ks j 0 ≡ get_or t.keys j 0 = λ j f. get_or-set_other t.keys s j (i * row_span + p) 0 f in
    let others : (j : ℕ) → (j ≡ s → ⊥) → get_or vs j nan ≡ get_or t.vals j nan = λ j f. get_or-set_other t.vals s j x nan f in
    let less : (j : ℕ) → at ≤ j → j < s → get_or ks j 0 < i * row_span + p = λ j u v. subst (λ (y : ℕ). y < i * row_span + p) (sym (other j λ e. omega (arith, e, v))) (h.high j u v) in
    let last : (j : ℕ) → s ≤ j → j < s + 1 → get_or ks j 0 ≡ i * row_span + p = λ j u v. subst (λ (y : ℕ). get_or ks y 0 ≡ i * row_span + p) (omega (arith, u, v)) same in
    record {
      begun = omega (arith, hb);
      room = omega (arith, hr);
      wide = length-set t.keys s (i * row_span + p) ∙ h.wide;
      wides = length-set t.vals s x ∙ h.wides;
      reads = λ q a b. upto (λ (q : ℕ). cell_in ks vs (i * row_span + q) at (s + 1) ≡ settled (get_or row q nan)) p q b
          (λ m. cell-within ks t.keys vs t.vals (i * row_span + q) at at s (s + 1) (omega arith) hb (omega arith)
          (λ j u v. other j λ e. omega (arith, e, v)) (λ j u v. others j λ e. omega (arith, e, v)) (λ j u v. absurd (omega (arith, u, v)))
          (λ j u v e. let w = last j u v in omega (arith, w, e, m)) ∙ h.reads q a m)
          (cell-at ks vs (i * row_span + p) at (s + 1) s hb (omega arith) (sym same) (λ j u v e. let w = less j u v in omega (arith, w, e)) ∙ sames ∙ rw n refl);
      low = λ j u v. upto (λ (j : ℕ). at ≤ j → i * row_span < get_or ks j 0) s j (omega (arith, v))
          (λ m u. subst (λ (y : ℕ). i * row_span < y) (sym (other j λ e. omega (arith, e, m))) (h.low j u m))
          (λ u. omega (arith, same, l)) u;
      high = λ j u v. upto (λ (j : ℕ). at ≤ j → get_or ks j 0 < i * row_span + suc p) s j (omega (arith, v)) (λ m u. let w = less j u m in omega (arith, w)) (λ u. omega (arith, same)) u;
      up = λ a b u v w. upto (λ (b : ℕ). a < b → get_or ks a 0 < get_or ks b 0) s b (omega (arith, w))
          (λ m v. subst (λ (y : ℕ). y < get_or ks b 0) (sym (other a λ e. omega (arith, e, v, m))) (subst (λ (y : ℕ). get_or t.keys a 0 < y) (sym (other b λ e. omega (arith, e, m))) (h.up a b u v m)))
          (λ v. let y = less a u v in omega (arith, same, y)) v;
      before = λ j u. other j (λ e. omega (arith, e, u, hb)) ∙ h.before j u;
      befores = λ j u. others j (λ e. omega (arith, e, u, hb)) ∙ h.befores j u;
      after = λ j u. other j (λ e. omega (arith, e, u)) ∙ h.after j (omega (arith, u));
      afters = λ j u. others j (λ e. omega (arith, e, u)) ∙ h.afters j (omega (arith, u));
    }

turn : (i at : ℕ) (row : List Float) (keys : List ℕ) (vals : List Float) (p : ℕ) (t : Cells) → 1 ≤ p → at + p ≤ length keys → at + p ≤ length vals → Packing i at row keys vals p t → Packing i at row keys vals (suc p) (pack_turn i row p t)
unfolding pack_turn put_if
turn i at row keys vals p t l c d h = go (ne (get_or row p nan) zero64) refl
  where
    go : (b : Bool) → ne (get_or row p nan) zero64 ≡ b → Packing i at row keys vals (suc p) (cond b (cells (set t.keys t.size (i * row_span + p)) (set t.vals t.size (get_or row p nan)) (t.size + 1)) t)
    go true e = on i at row keys vals p t e l c d h
    go false e = off i at row keys vals p t e l h

pub compress-reads : (k i at : ℕ) (row : List Float) (keys : List ℕ) (vals : List Float) → at + k ≤ length keys → at + k ≤ length vals → Packing i at row keys vals (k + 1) (packed k i row (cells keys vals at))
unfolding packed
compress-reads k i at row keys vals c d =
    run-inv (λ (p : ℕ) (t : Cells). Packing i at row keys vals p t) (pack_turn i row) 1 (k + 1) (cells keys vals at) (omega arith)
    (λ p t u v h. turn i at row keys vals p t u (omega arith) (omega arith) h)
    record {
      begun = omega arith;
      room = omega arith;
      wide = refl;
      wides = refl;
      reads = λ q u v. absurd (omega (arith, u, v));
      low = λ j u v. absurd (omega (arith, u, v));
      high = λ j u v. absurd (omega (arith, u, v));
      up = λ a b u v w. absurd (omega (arith, u, v, w));
      before = λ j u. refl;
      befores = λ j u. refl;
      after = λ j u. refl;
      afters = λ j u. refl;
    }
