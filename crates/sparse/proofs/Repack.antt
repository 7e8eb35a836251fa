-- The cells of tables whose keys ascend, read as dense rows and laid down again, are those cells.
-- Assumes nothing.
use Prim.Native.Nat.{ℕ, zero, suc, ◌+◌, ◌*◌, ◌≤◌, ◌<◌}
use Rattle.std.specs.Prelude.{◌≡◌, Bool, eqb, Float, set}
use Rattle.std.proofs.Math.Path.{refl, ap}
use Rattle.std.proofs.Common.{sym, ◌∙◌, subst, add-zero, zero-add}
use Rattle.std.proofs.Math.Bool.{true, false}
use mathlib.Core.List.{List, [], ◌∷◌}
use native.Mathlib.Omega.{arith}
use Rattle.std.proofs.Math.Dec.{ltb}
use Rattle.std.specs.Float.Ieee.{nan, ne, of_bits}
use Rattle.std.proofs.Math.ListN.{get_or}
use borrow.Author.Tests.{ltb-true, ltb-false, eqb-true, eqb-false}
use Rattle.laws.specs.Lists.{tab, get_or-tab, laid}
use Rattle.layout.specs.Layout.{over}
use Rattle.layout.specs.Laying.{laid_nil}
use Rattle.steps.specs.Number.{zero64}
use Rattle.layout.specs.cells.Names.{row_span}
use Rattle.layout.specs.cells.Cells.{Cells, cells, cell_at, row_of, lower_in, pack_turn, packed}
use Rattle.layout.specs.cells.Seek.{run-inv}
use Rattle.layout.specs.cells.Search.{Bound, lower-bound, lower-is}
use Rattle.layout.specs.cells.Reads.{ascending-lt, cell-here, cell-absent}
use Rattle.layout.specs.cells.Pack.{put_on, put-off}
use Rattle.sparse.specs.Stretches.{copied}
use Rattle.sparse.specs.Laying.{rows_laid}
use Rattle.sparse.specs.Repack.{Held}

module _ {A : Type 0} where
  laid_more : (g : ℕ → A) (i m : ℕ) (l : List A) → set (laid (λ (x _ : A). x) 0 (tab g i m) l) m (g (i + m)) ≡ laid (λ x _. x) 0 (tab g i (suc m)) l
  unfolding laid tab
  laid_more g i zero [] = refl
  laid_more g i (suc m) [] = refl
  laid_more g i zero (y ∷ l) = rw (add-zero i) (ap (λ (r : List A). g i ∷ r) (sym (laid_nil (λ (x _ : A). x) 0 l)))
  laid_more g i (suc m) (y ∷ l) =
      let o : suc i + m ≡ i + suc m = omega arith in
      ap (λ (r : List A). g i ∷ r) (rw o at (laid_more g (suc i) m l))

  copied_more : (g : ℕ → A) (m : ℕ) (l : List A) → set (copied g m l) m (g m) ≡ copied g (m + 1) l
  unfolding copied over
  copied_more g m l =
      let o : m + 1 ≡ suc m = omega arith in
      rw o (rw (zero-add m) at (laid_more g 0 m l))

  copied_none : (g : ℕ → A) (l : List A) → copied g 0 l ≡ l
  unfolding copied over tab
  copied_none g l = laid_nil (λ (x _ : A). x) 0 l

zero-off : ne zero64 zero64 ≡ false
unfolding zero64 ne of_bits
zero-off = refl

module _ (keys : List ℕ) (vals : List Float) (n k r : ℕ) (w : k < row_span) (held : Held keys vals n k r) (tk : List ℕ) (tv : List Float) where
  -- the first m of them are laid down
  abbrev done : ℕ → Cells
  done m = cells (copied (λ j. get_or keys j 0) m tk) (copied (λ j. get_or vals j nan) m tv) m

  abbrev low : ℕ → ℕ
  low x = lower_in keys x 0 n

  bound : (x : ℕ) → Bound keys x 0 n (low x)
  bound x = lower-bound keys x 0 n (omega arith)

  -- the key x is there: it is the next one
  here : (x : ℕ) → low x < n → get_or keys (low x) 0 ≡ x → low (x + 1) ≡ low x + 1
  here x h q =
      let b = bound x in
      lower-is keys (x + 1) 0 n (omega arith, omega (arith, h), (λ j u v. below j v (ltb j (low x)) refl), λ v. let l = ascending-lt keys n (low x) (low x + 1) held.up (omega arith) v in omega (arith, l, q))
    where
      below : (j : ℕ) → j < low x + 1 → (c : Bool) → ltb j (low x) ≡ c → get_or keys j 0 < x + 1
      below j v true e = let b = (bound x).2 j (omega arith) (ltb-true j (low x) e) in omega (arith, b)
      below j v false e =
          let o : low x ≡ j = omega (arith, v, ltb-false j (low x) e) in
          subst (λ (z : ℕ). get_or keys z 0 < x + 1) o (omega (arith, q))

  -- it is not: the next one stays
  gone : (x : ℕ) → (low x < n → get_or keys (low x) 0 ≡ x → ⊥) → low (x + 1) ≡ low x
  gone x f =
      let b = bound x in
      lower-is keys (x + 1) 0 n (b.0, b.1, (λ j u v. let l = b.2 j u v in omega (arith, l)), λ v. more v (b.3 v) (f v))
    where
      more : low x < n → x ≤ get_or keys (low x) 0 → (get_or keys (low x) 0 ≡ x → ⊥) → x + 1 ≤ get_or keys (low x) 0
      more v l g = omega (arith, l, g)

  absent-cell : (x : ℕ) → (low x < n → get_or keys (low x) 0 ≡ x → ⊥) → cell_at keys vals n x ≡ zero64
  unfolding cell_at
  absent-cell x f = cell-absent keys vals x 0 n (omega arith) λ j u v q. no j v q (ltb j (low x)) refl (ltb (low x) j) refl
    where
      no : (j : ℕ) → j < n → x ≡ get_or keys j 0 → (c : Bool) → ltb j (low x) ≡ c → (d : Bool) → ltb (low x) j ≡ d → ⊥
      no j v q true e d g = let l = (bound x).2 j (omega arith) (ltb-true j (low x) e) in omega (arith, l, q)
      no j v q false e true g =
          let l = ascending-lt keys n (low x) j held.up (ltb-true (low x) j g) v in
          let m = (bound x).3 (omega (arith, v, ltb-true (low x) j g)) in
          omega (arith, l, m, q)
      no j v q false e false g =
          let o : j ≡ low x = omega (arith, ltb-false j (low x) e, ltb-false (low x) j g) in
          f (omega (arith, o, v)) (sym (subst (λ (z : ℕ). x ≡ get_or keys z 0) o q))

  one_more : (m x : ℕ) (v : Float) → get_or keys m 0 ≡ x → v ≡ get_or vals m nan → cells (set (copied (λ j. get_or keys j 0) m tk) m x) (set (copied (λ j. get_or vals j nan) m tv) m v) (m + 1) ≡ done (m + 1)
  one_more m x v q e = rw (← q, e, copied_more (λ j. get_or keys j 0) m tk, copied_more (λ j. get_or vals j nan) m tv) refl

  turn : (i p : ℕ) (row : List Float) → get_or row p nan ≡ cell_at keys vals n (i * row_span + p) → pack_turn i row p (done (low (i * row_span + p))) ≡ done (low (i * row_span + p + 1))
  unfolding pack_turn
  turn i p row e = go (ltb (low x) n) refl (eqb (get_or keys (low x) 0) x) refl
    where
      x : ℕ
      x = i * row_span + p

      value : low (i * row_span + p) < n → get_or keys (low (i * row_span + p)) 0 ≡ i * row_span + p → get_or row p nan ≡ get_or vals (low (i * row_span + p)) nan
      value h q = e ∙ sym (ap (λ (z : ℕ). cell_at keys vals n z) q) ∙ (unfold cell_at in cell-here keys vals n 0 n (low (i * row_span + p)) held.up (omega arith) h (omega arith))

      on : low (i * row_span + p) < n → get_or keys (low (i * row_span + p)) 0 ≡ i * row_span + p → pack_turn i row p (done (low (i * row_span + p))) ≡ done (low (i * row_span + p + 1))
      on h q =
          let m : ℕ = low (i * row_span + p) in
          let v : get_or row p nan ≡ get_or vals m nan = value h q in
          sym (put_on (i * row_span + p) (get_or row p nan) (done m) (ap (λ (y : Float). ne y zero64) v ∙ held.present m h))
          ∙ one_more m (i * row_span + p) (get_or row p nan) q v
          ∙ ap done (sym (here (i * row_span + p) h q))

      off : (low (i * row_span + p) < n → get_or keys (low (i * row_span + p)) 0 ≡ i * row_span + p → ⊥) → pack_turn i row p (done (low (i * row_span + p))) ≡ done (low (i * row_span + p + 1))
      off f =
          sym (put-off (i * row_span + p) (get_or row p nan) (done (low (i * row_span + p))) (ap (λ (y : Float). ne y zero64) (e ∙ absent-cell (i * row_span + p) f) ∙ zero-off))
          ∙ ap done (sym (gone (i * row_span + p) f))

      go : (c : Bool) → ltb (low (i * row_span + p)) n ≡ c → (d : Bool) → eqb (get_or keys (low (i * row_span + p)) 0) (i * row_span + p) ≡ d → pack_turn i row p (done (low (i * row_span + p))) ≡ done (low (i * row_span + p + 1))
      go true a true b = on (ltb-true _ _ a) (eqb-true _ _ b)
      go true a false b = off λ h q. eqb-false _ _ b q
      go false a d b = off λ h q. absurd (omega (arith, h, ltb-false (low (i * row_span + p)) n a))

  -- ---- rows, one after the other

  row-packed : (i : ℕ) (row : List Float) → ((p : ℕ) → 1 ≤ p → p < k + 1 → get_or row p nan ≡ cell_at keys vals n (i * row_span + p)) → packed k i row (done (low (i * row_span + 1))) ≡ done (low (i * row_span + (k + 1)))
  unfolding packed
  row-packed i row e =
      run-inv (λ (p : ℕ) (t : Cells). t ≡ done (low (i * row_span + p))) (pack_turn i row) 1 (k + 1) (done (low (i * row_span + 1))) (omega arith)
      (λ p t a b q.
      let o : i * row_span + p + 1 ≡ i * row_span + suc p = omega arith in
      ap (pack_turn i row p) q ∙ (rw o at (turn i p row (e p a b))))
      refl

  -- no key lies between the last place of a row and the first of the next
  next_row : (i : ℕ) → low (i * row_span + (k + 1)) ≡ low (suc i * row_span + 1)
  next_row i =
      let b = bound (i * row_span + (k + 1)) in
      sym (lower-is keys (suc i * row_span + 1) 0 n (b.0, b.1, (λ j u v. let l = b.2 j u v in omega (arith, l, w)), λ v. past (low (i * row_span + (k + 1))) v (b.3 v)))
    where
      past : (j : ℕ) → j < n → i * row_span + (k + 1) ≤ get_or keys j 0 → suc i * row_span + 1 ≤ get_or keys j 0
      past j v l =
          let a = (held.places j v).0 in
          let c = (held.places j v).1 in
          omega (arith, l, a, c, w)

  row-cell : (i p : ℕ) → 1 ≤ p → p < k + 1 → get_or (zero64 ∷ row_of keys vals n k i) p nan ≡ cell_at keys vals n (i * row_span + p)
  unfolding row_of
  row-cell i zero a b = absurd (omega (arith, a))
  row-cell i (suc p) a b =
      let o : 1 + p ≡ suc p = omega arith in
      rw o at (get_or-tab (λ q. cell_at keys vals n (i * row_span + q)) 1 k p nan (omega (arith, b)))

  rows-packed : (i m : ℕ) → rows_laid k i (tab (λ q. row_of keys vals n k q) i m) (done (low (i * row_span + 1))) ≡ done (low ((i + m) * row_span + 1))
  unfolding rows_laid tab
  rows-packed i zero = rw (add-zero i) refl
  rows-packed i (suc m) =
      let o : suc i + m ≡ i + suc m = omega arith in
      ap (rows_laid k (suc i) (tab (λ q. row_of keys vals n k q) (suc i) m)) (row-packed i (zero64 ∷ row_of keys vals n k i) (row-cell i) ∙ ap done (next_row i)) ∙ (rw o at (rows-packed (suc i) m))

  -- ---- the law

  pub repacked : rows_laid k 1 (tab (λ q. row_of keys vals n k q) 1 r) (cells tk tv 0) ≡ done n
  repacked =
      ap (rows_laid k 1 (tab (λ q. row_of keys vals n k q) 1 r)) (start ∙ ap done (sym first-low)) ∙ rows-packed 1 r ∙ ap done last-low
    where
      start : cells tk tv 0 ≡ done 0
      start = rw (copied_none (λ j. get_or keys j 0) tk, copied_none (λ j. get_or vals j nan) tv) refl

      first-low : low (1 * row_span + 1) ≡ 0
      first-low = lower-is keys (1 * row_span + 1) 0 n (omega arith, omega arith, (λ j u v. absurd (omega (arith, v))), λ v. let a = (held.rows 0 v).0 in let b = (held.places 0 v).0 in omega (arith, a, b))

      last-low : low ((1 + r) * row_span + 1) ≡ n
      last-low = lower-is keys ((1 + r) * row_span + 1) 0 n (omega arith, omega arith, (λ j u v. let a = (held.rows j v).1 in omega (arith, a)), λ v. absurd (omega (arith, v)))
