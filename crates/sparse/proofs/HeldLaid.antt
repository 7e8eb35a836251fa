-- Dense rows laid down as cells have the sparse form: each key is of one of the rows and of one of the places, and no cell is 0.0.
-- Assumes nothing.
use Rattle.std.specs.Prelude.{ℕ, suc, ◌+◌, ◌*◌, ◌/◌, ◌%◌, ◌≤◌, ◌<◌, ◌≡◌, Bool, cond, List, [], ◌∷◌, ltb, Float, length, set}
use Rattle.std.proofs.Math.Path.{refl}
use Rattle.std.proofs.Common.{sym, ◌∙◌, subst, add-zero, arith, length-set, get_or-set_same, get_or-set_other}
use Rattle.std.proofs.Math.Bool.{true, false}
use Rattle.std.proofs.Math.Dec.{eqb}
use Rattle.std.specs.Float.Ieee.{nan, ne}
use Rattle.std.proofs.Math.ListN.{get_or}
use borrow.Author.Tests.{ltb-true, ltb-false, eqb-true, eqb-false}
use Rattle.steps.specs.Number.{zero64}
use Rattle.layout.specs.cells.Names.{row_span}
use Rattle.layout.specs.cells.Cells.{Cells, cells, put_if, pack_turn, packed, counted}
use Rattle.layout.specs.cells.Seek.{run-inv}
use Rattle.layout.specs.cells.Pack.{Packing, compress-reads}
use Rattle.layout.specs.cells.Replace.{packed-size}
use Rattle.sparse.specs.Laying.{rows_laid, Room}
use Rattle.sparse.proofs.Laying.{rows-ascend}
use Rattle.sparse.specs.Repack.{Held}

-- ---- one row

abbrev Present : ℕ → ℕ → Cells → Type 0
Present a n t = (j : ℕ) → a ≤ j → j < n → ne (get_or t.vals j nan) zero64 ≡ true

module _ (i at : ℕ) (row vals : List Float) where
  abbrev Kept : ℕ → Cells → Type 0
  Kept p t = (length t.vals ≡ length vals) × (t.size + 1 ≤ at + p) × (Present at t.size t)

  kept-turn : (p : ℕ) (t : Cells) → 1 ≤ p → at + p ≤ length vals → Kept p t → Kept (suc p) (pack_turn i row p t)
  unfolding pack_turn put_if
  kept-turn p t a b h = go (ne (get_or row p nan) zero64) refl
    where
      go : (c : Bool) → ne (get_or row p nan) zero64 ≡ c → Kept (suc p) (cond c (cells (set t.keys t.size (i * row_span + p)) (set t.vals t.size (get_or row p nan)) (t.size + 1)) t)
      go false e = let r = h.1 in (h.0, omega (arith, r), h.2)
      go true e =
          let r = h.1 in
          (length-set t.vals t.size (get_or row p nan) ∙ h.0, omega (arith, r), λ j u v. at_place j u v (eqb j t.size) refl)
        where
          at_place : (j : ℕ) → at ≤ j → j < t.size + 1 → (d : Bool) → eqb j t.size ≡ d → ne (get_or (set t.vals t.size (get_or row p nan)) j nan) zero64 ≡ true
          at_place j u v true q =
              let o : j ≡ t.size = eqb-true j t.size q in
              let x : get_or (set t.vals t.size (get_or row p nan)) j nan ≡ get_or row p nan = rw o (get_or-set_same t.vals t.size (get_or row p nan) nan (omega (arith, h.0, h.1, b))) in
              rw x e
          at_place j u v false q =
              let d : j ≡ t.size → ⊥ = eqb-false j t.size q in
              rw (get_or-set_other t.vals t.size j (get_or row p nan) nan d) (h.2 j u (omega (arith, v, d)))

pub row-present : (k i at : ℕ) (row : List Float) (keys : List ℕ) (vals : List Float) → at + k ≤ length vals → Present at (packed k i row (cells keys vals at)).size (packed k i row (cells keys vals at))
unfolding packed
row-present k i at row keys vals b =
    (run-inv (Kept i at row vals) (pack_turn i row) 1 (k + 1) (cells keys vals at) (omega arith)
    (λ p t u v h. kept-turn i at row vals p t u (omega (arith, v, b)) h)
    (refl, omega arith, λ j u v. absurd (omega (arith, u, v)))).2

-- ---- the rows 1 up to i

record Within (len k i : ℕ) (t : Cells) : Type 0 where
  long : length t.keys ≡ len
  rows : (j : ℕ) → j < t.size → (1 ≤ get_or t.keys j 0 / row_span) × (get_or t.keys j 0 / row_span < i)
  places : (j : ℕ) → j < t.size → (1 ≤ get_or t.keys j 0 % row_span) × (get_or t.keys j 0 % row_span ≤ k)
  present : (j : ℕ) → j < t.size → ne (get_or t.vals j nan) zero64 ≡ true
  size : t.size ≤ length t.keys

module _ (len k i : ℕ) (t : Cells) (row : List Float) (w : k < row_span) (one : 1 ≤ i) (g : Within len k i t) (lk : t.size + k ≤ length t.keys) (lv : t.size + k ≤ length t.vals) where
  abbrev t' : Cells
  t' = packed k i row t

  pk : Packing i t.size row t.keys t.vals (k + 1) t'
  pk = compress-reads k i t.size row t.keys t.vals lk lv

  -- a place of the rows before, or one of this row
  split : (P : ℕ → Type 0) → ((j : ℕ) → j < t.size → P j) → ((j : ℕ) → t.size ≤ j → j < t'.size → P j) → (j : ℕ) → j < t'.size → P j
  split P f h j u = go (ltb j t.size) refl
    where
      go : (b : Bool) → ltb j t.size ≡ b → P j
      go true q = f j (ltb-true j t.size q)
      go false q = h j (ltb-false j t.size q) u

  within-next : Within len k (suc i) t'
  within-next =
      record {
        long = pk.wide ∙ g.long;
        rows = split (λ j. (1 ≤ get_or t'.keys j 0 / row_span) × (get_or t'.keys j 0 / row_span < suc i))
            (λ j u. rw (pk.before j u) (let r = g.rows j u in let x = r.1 in (r.0, omega (arith, x))))
            (λ j u v. let a = pk.low j u v in let b = pk.high j u v in (omega (arith, a, one), omega (arith, b, w)));
        places = split (λ j. (1 ≤ get_or t'.keys j 0 % row_span) × (get_or t'.keys j 0 % row_span ≤ k))
            (λ j u. rw (pk.before j u) (g.places j u))
            (λ j u v. let a = pk.low j u v in let b = pk.high j u v in (omega (arith, a, b, w), omega (arith, a, b, w)));
        present = split (λ j. ne (get_or t'.vals j nan) zero64 ≡ true)
            (λ j u. rw (pk.befores j u) (g.present j u))
            (λ j u v. row-present k i t.size row t.keys t.vals lv j u v);
        size = let r = pk.room in let l = pk.wide in omega (arith, r, l, lk);
      }

within_all : (len k : ℕ) (rs : List (List Float)) (i : ℕ) (t : Cells) → k < row_span → 1 ≤ i → Room k rs t.size (length t.keys) → length t.vals ≡ length t.keys → Within len k i t → Within len k (i + length rs) (rows_laid k i rs t)
unfolding rows_laid Room
within_all len k [] i t w one r l g = subst (λ (z : ℕ). Within len k z t) (sym (add-zero i)) g
within_all len k (r ∷ rs) i t w one room l g =
    let row : List Float = zero64 ∷ r in
    let lk = room.0 in
    let lv : t.size + k ≤ length t.vals = rw l lk in
    let p : Packing i t.size row t.keys t.vals (k + 1) (packed k i row t) = compress-reads k i t.size row t.keys t.vals lk lv in
    let z : (packed k i row t).size ≡ t.size + counted k row = packed-size k i t.size row t.keys t.vals in
    let o : suc i + length rs ≡ i + length (r ∷ rs) = omega arith in
    let room₁ : Room k rs (packed k i row t).size (length (packed k i row t).keys) = rw (z, p.wide) room.1 in
    subst (λ (y : ℕ). Within len k y (rows_laid k (suc i) rs (packed k i row t))) o
    (within_all len k rs (suc i) (packed k i row t) w (omega arith) room₁ (p.wides ∙ l ∙ sym p.wide) (within-next len k i t row w one g lk lv))

-- ---- the law

module _ (k : ℕ) (rs : List (List Float)) (keys : List ℕ) (vals : List Float) (w : k < row_span) (room : Room k rs 0 (length keys)) (l : length vals ≡ length keys) where
  abbrev laid : Cells
  laid = rows_laid k 1 rs (cells keys vals 0)

  all-within : Within (length keys) k (1 + length rs) laid
  all-within =
      within_all (length keys) k rs 1 (cells keys vals 0) w (omega arith) room l
      record { long = refl; rows = λ j h. absurd (omega (arith, h)); places = λ j h. absurd (omega (arith, h)); present = λ j h. absurd (omega (arith, h)); size = omega arith }

  pub rows-held : Held laid.keys laid.vals laid.size k (length rs)
  rows-held =
      record {
        up = rows-ascend k rs keys vals w room l;
        rows = λ j h. let r = all-within.rows j h in let x = r.1 in (r.0, omega (arith, x));
        places = all-within.places;
        present = all-within.present;
      }

  pub rows-size : laid.size ≤ length keys
  rows-size = let a = all-within.size in let b = all-within.long in omega (arith, a, b)
