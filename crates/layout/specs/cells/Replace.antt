-- Row i becomes a dense row: it reads as that row, every other row as before, and the keys still ascend.
-- Assumes nothing.
use Rattle.std.specs.Prelude.{ℕ, zero, suc, ◌+◌, ◌-◌, ◌*◌, ◌≤◌, ◌<◌, ◌≡◌, refl, Bool, true, false, cond, List, Float, length, get_or, set}
use Rattle.std.proofs.Common.{sym, ◌∙◌, subst, arith}
use Rattle.std.specs.Float.{nan}
use Rattle.std.specs.Float.Ieee.{ne}
use Rattle.laws.specs.Loops.{turns, run}
use Rattle.steps.specs.Number.{zero64}
use Rattle.layout.specs.cells.Names.{row_span}
use Rattle.layout.specs.cells.Cells.{Ascending, Cells, cells, lower_in, cell_in, moved, put_if, pack_turn, packed, count_turn, counted, settled, replaced_at, replaced}
use Rattle.layout.specs.cells.Search.{Bound, lower-bound}
use Rattle.layout.specs.cells.Slide.{length_moved, moved_before, moved_in}
use Rattle.layout.specs.cells.Reads.{RowRun, run-le, run_past}
use Rattle.layout.specs.cells.Pack.{Packing, compress-reads}

-- ---- how many cells are laid down
size-one : (i : ℕ) (row : List Float) (p c : ℕ) (s : Cells) → (pack_turn i row p s).size + c ≡ s.size + count_turn row p c
unfolding pack_turn put_if count_turn
size-one i row p c s = go (ne (get_or row p nan) zero64)
  where
    go : (b : Bool) → (cond b (cells (set s.keys s.size (i * row_span + p)) (set s.vals s.size (get_or row p nan)) (s.size + 1)) s).size + c ≡ s.size + cond b (c + 1) c
    go true = omega arith
    go false = refl

size-turns : (i : ℕ) (row : List Float) (n p c : ℕ) (s : Cells) → (turns (pack_turn i row) n p s).size + c ≡ s.size + turns (count_turn row) n p c
unfolding turns
size-turns i row zero p c s = refl
size-turns i row (suc n) p c s =
    let h = size-turns i row n (suc p) (count_turn row p c) (pack_turn i row p s) in
    let o = size-one i row p c s in
    omega (arith, h, o)

pub packed-size : (k i at : ℕ) (row : List Float) (keys : List ℕ) (vals : List Float) → (packed k i row (cells keys vals at)).size ≡ at + counted k row
unfolding packed counted run
packed-size k i at row keys vals = let h = size-turns i row (k + 1 - 1) 1 0 (cells keys vals at) in omega (arith, h)

-- ---- the calls put together
pub replaced-is : (n i k : ℕ) (row : List Float) (keys : List ℕ) (vals : List Float) (a e m : ℕ) (ks : List ℕ) (vs : List Float) (t : Cells)
    → a ≡ lower_in keys (i * row_span) 0 n → e ≡ lower_in keys (i * row_span + row_span) 0 n → m ≡ counted k row → ks ≡ moved e (a + m) (n - e) keys → vs ≡ moved e (a + m) (n - e) vals → t ≡ packed k i row (cells ks vs a)
    → cells t.keys t.vals (n - e + (a + m)) ≡ replaced n i k row keys vals
unfolding replaced replaced_at
replaced-is n i k row keys vals a e m ks vs t h₁ h₂ h₃ h₄ h₅ h₆ = rw (h₆, h₅, h₄, h₃, h₂, h₁)

pub row-run : (keys : List ℕ) (n i : ℕ) {a e : ℕ} → a ≡ lower_in keys (i * row_span) 0 n → e ≡ lower_in keys (i * row_span + row_span) 0 n → RowRun keys n i a e
row-run keys n i q r =
    (subst (λ (z : ℕ). Bound keys (i * row_span) 0 n z) (sym q) (lower-bound keys (i * row_span) 0 n (omega arith)), subst (λ (z : ℕ). Bound keys (i * row_span + row_span) 0 n z) (sym r) (lower-bound keys (i * row_span + row_span) 0 n (omega arith)))

pub run-ordered : (keys : List ℕ) (n i a e : ℕ) → a ≡ lower_in keys (i * row_span) 0 n → e ≡ lower_in keys (i * row_span + row_span) 0 n → a ≤ e
run-ordered keys n i a e q r = run-le keys n i a e (row-run keys n i q r)

-- ---- what the tables read as: t beside the tables before, where m cells stand from place a on in place of those up to e
pub record Replacing (n i k a e m : ℕ) (row : List Float) (keys : List ℕ) (vals : List Float) (t : Cells) : Type 0 where
  pub lead : (j : ℕ) → j < a → get_or t.keys j 0 ≡ get_or keys j 0
  pub leads : (j : ℕ) → j < a → get_or t.vals j nan ≡ get_or vals j nan
  pub under : (j : ℕ) → j < a → get_or t.keys j 0 < i * row_span
  pub reads : (q : ℕ) → 1 ≤ q → q < k + 1 → cell_in t.keys t.vals (i * row_span + q) a (a + m) ≡ settled (get_or row q nan)
  pub low : (j : ℕ) → a ≤ j → j < a + m → i * row_span < get_or t.keys j 0
  pub high : (j : ℕ) → a ≤ j → j < a + m → get_or t.keys j 0 < i * row_span + row_span
  pub climb : (x y : ℕ) → a ≤ x → x < y → y < a + m → get_or t.keys x 0 < get_or t.keys y 0
  pub tail : (j : ℕ) → j < n - e → get_or t.keys (a + m + j) 0 ≡ get_or keys (e + j) 0
  pub tails : (j : ℕ) → j < n - e → get_or t.vals (a + m + j) nan ≡ get_or vals (e + j) nan
  pub over : (j : ℕ) → a + m ≤ j → j < a + m + (n - e) → i * row_span + row_span ≤ get_or t.keys j 0

pub replacing : (n i k a e : ℕ) (row : List Float) (keys : List ℕ) (vals : List Float) → Ascending keys n → RowRun keys n i a e → k < row_span → n + k ≤ length keys → n + k ≤ length vals → counted k row ≤ k
    → Replacing n i k a e (counted k row) row keys vals (packed k i row (cells (moved e (a + counted k row) (n - e) keys) (moved e (a + counted k row) (n - e) vals) a))
replacing n i k a e row keys vals up r w lk lv mk =
    let m : ℕ = counted k row in
    let ae : a ≤ e = run-le keys n i a e r in
    let en : e ≤ n = r.1.1 in
    let ks : List ℕ = moved e (a + m) (n - e) keys in
    let vs : List Float = moved e (a + m) (n - e) vals in
    let t : Cells = packed k i row (cells ks vs a) in
    let c₁ : e + (n - e) ≤ length keys = omega (arith, en, lk) in
    let c₂ : a + m + (n - e) ≤ length keys = omega (arith, en, ae, lk, mk) in
    let d₁ : e + (n - e) ≤ length vals = omega (arith, en, lv) in
    let d₂ : a + m + (n - e) ≤ length vals = omega (arith, en, ae, lv, mk) in
    let p : Packing i a row ks vs (k + 1) t = compress-reads k i a row ks vs (omega (arith, length_moved e (a + m) (n - e) keys c₁ c₂, ae, en, lk)) (omega (arith, length_moved e (a + m) (n - e) vals d₁ d₂, ae, en, lv)) in
    let s : t.size ≡ a + m = packed-size k i a row ks vs in
    let lead : (j : ℕ) → j < a → get_or t.keys j 0 ≡ get_or keys j 0 = λ j u. p.before j u ∙ moved_before e (a + m) (n - e) keys j 0 c₁ c₂ (omega (arith, u)) in
    let tail : (j : ℕ) → j < n - e → get_or t.keys (a + m + j) 0 ≡ get_or keys (e + j) 0 = λ j u. p.after (a + m + j) (omega (arith, s)) ∙ moved_in e (a + m) (n - e) keys j 0 c₁ c₂ u in
    record {
      lead = lead;
      leads = λ j u. p.befores j u ∙ moved_before e (a + m) (n - e) vals j nan d₁ d₂ (omega (arith, u));
      under = λ j u. subst (λ (y : ℕ). y < i * row_span) (sym (lead j u)) (r.0.2 j (omega arith) u);
      reads = λ q u v. subst (λ (y : ℕ). cell_in t.keys t.vals (i * row_span + q) a y ≡ settled (get_or row q nan)) s (p.reads q u v);
      low = λ j u v. p.low j u (omega (arith, s, v));
      high = λ j u v. let h = p.high j u (omega (arith, s, v)) in omega (arith, h, w);
      climb = λ x y u v z. p.up x y u v (omega (arith, s, z));
      tail = tail;
      tails = λ j u. p.afters (a + m + j) (omega (arith, s)) ∙ moved_in e (a + m) (n - e) vals j nan d₁ d₂ u;
      over = λ j u v.
          let x : a + m + (j - (a + m)) ≡ j = omega (arith, u) in
          let h = run_past keys n i a e (e + (j - (a + m))) up r (omega arith) (omega (arith, u, v, en)) in
          let g = tail (j - (a + m)) (omega (arith, u, v)) in
          subst (λ (y : ℕ). i * row_span + row_span ≤ get_or t.keys y 0) x (subst (λ (y : ℕ). i * row_span + row_span ≤ y) (sym g) h);
    }
