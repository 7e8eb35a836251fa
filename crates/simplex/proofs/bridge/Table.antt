-- The abstraction: a tableau of the steps reads as the theory's mask, rows and objectives; a column is a symbol's id, column 0 the constant's. While the mark stays, a pivot of the steps is the theory's. Assumes nothing.
use Rattle.std.specs.Prelude.{◌≡◌, ◌≢◌, ℕ, ◌^◌, Bool, true, false, ◌&&◌, cond, ℤ, negsuc, ◌+ℤ◌, ◌*ℤ◌}
use Rattle.std.proofs.Math.Path.{refl, sym, ap, ap₂, subst}
use Rattle.std.proofs.Common.{◌∙◌, true≢false}
use mathlib.Core.List.{List, [], ◌∷◌}
use Rattle.std.proofs.Math.Option.{Option, none, some}
use Rattle.std.proofs.Math.IntN.{neg_ℤ}
use Rattle.std.specs.Float.Ieee.{Float, ne}
use Rattle.laws.specs.Ring.{ring, v, k as κ, ◌⊞◌, ◌⊠◌, ⊟◌}
use Rattle.simplex.specs.Ord.{0ℤ, 1ℤ}
use Rattle.simplex.specs.Lin.{Vec, δ, δ-other, plus}
use Rattle.simplex.specs.Choose.{All, all-map-of as all_map}
use Rattle.simplex.specs.Tab.{eqn, pivoted, pivot as pivotZ}
use Rattle.simplex.specs.Basis.{Mask, swap, Swapped, enters, leaves, stays, swapped}
use Rattle.simplex.specs.Opt.{Kind as KindZ}
use Rattle.simplex.specs.Cells.{substituted-row}
use Rattle.steps.specs.Number.{zero64, objective_bound, Mark, all_whole, worse}
use Rattle.steps.specs.Symbol.{Symbol, is_external}
use Rattle.steps.specs.Row.{Row, cell_values, cell_marks, Written, solve_for_symbols}
use Rattle.steps.specs.State.{Basic}
use Rattle.steps.specs.Work.{Work, with_tableau, with_changes, with_artificial, marking, with_rows, with_objective, find_row, drop_row, keep_row}
use Rattle.steps.specs.Changes.{note}
use Rattle.steps.specs.Substitute.{substitute_in_row, substitute_in_cells, substitute_in_rows, rows_of, marks_of, substitute, enter_basis, pivot}
use Rattle.simplex.specs.bridge.Nums.{worse-l, worse-r}
use Rattle.simplex.specs.bridge.Rows.{In, Outside, Sym?, is, isnt, sym?, ReadsRow, reads-to, cleared}
use Rattle.simplex.proofs.bridge.Rows.{row-to, substitute_in_row-z, substitute_in_cells-z, solve_for_symbols-z}
use Rattle.simplex.specs.bridge.Finds.{none≢some, find-miss, find_none, find-drop-same, find-drop-other, find-keep-same, find-keep-other, after-sub, find-sub, find-mark, sub-up, sub-all, drop-up, drop_all, keep-up, keep_all}
use Rattle.simplex.specs.bridge.Table.{RowAt, ArtAt, Live, ReadsTable, ReadsWork, in-above, in-nonzero, in-not_in, art-mark, Parts}

-- a row that is found is a row of the list
pub found_in : (Q : ℕ → Type 0) (j : ℕ) (bs : List Basic) (r : Row) → All (λ (b : Basic). Q b.symbol.id) bs → find_row j bs ≡ some r → Q j
found_in Q j [] r a f = absurd (none≢some (sym (find_none j) ∙ f))
found_in Q j (b ∷ bs) r a f = go (sym? j b.symbol) (found_in Q j bs r a.1)
  where
    go : Sym? j b.symbol → (find_row j bs ≡ some r → Q j) → Q j
    go (is e p d) ih = subst Q (sym p) a.0
    go (isnt e p d) ih = ih (sym (find-miss j b bs e) ∙ f)

-- and what holds of every row's column holds of every basic one
pub of-basic : (kind : ℕ → KindZ) (cut : Float) (xs : List Symbol) (bs : List Basic) (cs : List Float) (art : Option Row) (B : Mask) (R : ℕ → Vec) (o a : Vec) → ReadsTable kind cut xs bs cs art B R o a
    → (Q : ℕ → Type 0) → All (λ (b : Basic). Q b.symbol.id) bs → (j : ℕ) → B j ≡ true → Q j
of-basic kind cut xs bs cs art B R o a H Q A j b = go (find_row j bs) refl (H.rows j)
  where
    go : (t : Option Row) → find_row j bs ≡ t → RowAt xs t (B j) (R j) → Q j
    go none q h = absurd (true≢false (sym b ∙ h))
    go (some r) q h = found_in Q j bs r A q

pub clash-bool : {X : Type 0} {a : Bool} → a ≡ true → a ≡ false → X
clash-bool p q = absurd (true≢false (sym p ∙ q))

art-is : (cut : Float) (s : ℕ) (xs : List Symbol) (r : Row) (t : Option Row)
    → ◌≡◌ {A = Option Row} (elim (elim t as (λ x. Option Written) [ none ↦ none | some q ↦ some (substitute_in_row cut s xs r q) ]) as (λ x. Option Row) [ none ↦ none | some a ↦ some a.row ]) (after-sub cut s xs r t)
unfolding after-sub
art-is cut s xs r none = refl
art-is cut s xs r (some q) = refl

art-mark-is : (cut : Float) (s : ℕ) (xs : List Symbol) (r : Row) (t : Option Row)
    → (elim (elim t as (λ x. Option Written) [ none ↦ none | some q ↦ some (substitute_in_row cut s xs r q) ]) as (λ x. Mark) [ none ↦ all_whole | some a ↦ a.mark ]) ≡ art-mark cut s xs r t
unfolding art-mark
art-mark-is cut s xs r none = refl
art-mark-is cut s xs r (some q) = refl

pub enter-parts : (s : Symbol) (r : Row) (w : Work) → Parts s r w (enter_basis s r w)
unfolding enter_basis substitute note with_tableau with_changes with_artificial marking with_rows with_objective
enter-parts s r w = go (is_external s && ne r.constant zero64)
  where
    go : (b : Bool) → Parts s r w (with_rows (keep_row (record { symbol = s; row = r }) (cond b (note s.id (substitute s.id r w)) (substitute s.id r w)).tableau.rows) (cond b (note s.id (substitute s.id r w)) (substitute s.id r w)))
    go true = record {
      cutoff = refl;
      symbols = refl;
      rows = refl;
      objective = refl;
      artificial = art-is w.tableau.cutoff s.id w.tableau.symbols r w.artificial;
      mark = ap (λ (m : Mark). worse w.mark (worse (marks_of (substitute_in_rows w.tableau.cutoff s.id w.tableau.symbols r w.tableau.rows))
          (worse (cell_marks objective_bound (substitute_in_cells w.tableau.cutoff s.id w.tableau.symbols r.cells w.tableau.objective)) m))) (art-mark-is w.tableau.cutoff s.id w.tableau.symbols r w.artificial);
    }
    go false = record {
      cutoff = refl;
      symbols = refl;
      rows = refl;
      objective = refl;
      artificial = art-is w.tableau.cutoff s.id w.tableau.symbols r w.artificial;
      mark = ap (λ (m : Mark). worse w.mark (worse (marks_of (substitute_in_rows w.tableau.cutoff s.id w.tableau.symbols r w.tableau.rows))
          (worse (cell_marks objective_bound (substitute_in_cells w.tableau.cutoff s.id w.tableau.symbols r.cells w.tableau.objective)) m))) (art-mark-is w.tableau.cutoff s.id w.tableau.symbols r w.artificial);
    }

-- ---- the pivot, on the parts
module _ (kind : ℕ → KindZ) (cut : Float) (xs : List Symbol) (bs : List Basic) (cs : List Float) (art : Option Row) (B : Mask) (R : ℕ → Vec) (o a : Vec) (H : ReadsTable kind cut xs bs cs art B R o a)
    (l : ℕ) (e : Symbol) (hl : B l ≡ true) (he : B e.id ≡ false) (live : Live kind xs e) (unit : (i : ℕ) → R e.id i ≡ δ e.id i) (row : Row) (hit : find_row l bs ≡ some row) where
  row-l : ReadsRow xs row (R l)
  row-l = (subst (λ (t : Option Row). RowAt xs t (B l) (R l)) hit (H.rows l)).1

  l-in : In l xs
  l-in = found_in (λ i. In i xs) l bs row (all_map (λ (b : Basic). Live kind xs b.symbol) (λ (b : Basic). In b.symbol.id xs) (λ b h. h.0) bs H.rows-live) hit

  l≢0 : l ≢ 0
  l≢0 = in-nonzero l xs H.up l-in

  e≢0 : e.id ≢ 0
  e≢0 = in-nonzero e.id xs H.up live.0

  l≢e : l ≢ e.id
  l≢e p = clash-bool hl (ap B p ∙ he)

  no-e : find_row e.id bs ≡ none
  no-e = go (find_row e.id bs) refl
    where
      go : (t : Option Row) → find_row e.id bs ≡ t → find_row e.id bs ≡ none
      go none q = q
      go (some r) q = clash-bool (subst (λ (t : Option Row). RowAt xs t (B e.id) (R e.id)) q (H.rows e.id)).0 he

  abbrev solved : Row
  solved = (solve_for_symbols cut l e.id xs row).row

  module _ (m-solve : (solve_for_symbols cut l e.id xs row).mark ≡ all_whole) where
    solves : (R l e.id *ℤ R l e.id ≡ 1ℤ) × ReadsRow xs solved (pivoted l e.id R (δ e.id))
    solves = solve_for_symbols-z cut H.cutoff l e.id xs row (R l) l≢0 e≢0 l≢e l-in H.up row-l m-solve

    pub pivot-unit : R l e.id *ℤ R l e.id ≡ 1ℤ
    pivot-unit = solves.0

    -- a row substituted in
    sub_row : (mine : Row) (f : Vec) → ReadsRow xs mine f → (substitute_in_row cut e.id xs solved mine).mark ≡ all_whole → ReadsRow xs (substitute_in_row cut e.id xs solved mine).row (pivoted l e.id R f)
    sub_row mine f h m =
        row-to xs (substitute_in_row cut e.id xs solved mine).row (plus (cleared e.id f) (f e.id) (pivoted l e.id R (δ e.id))) (pivoted l e.id R f)
        (substituted-row e.id (R l e.id) (eqn R l) f) (substitute_in_row-z cut H.cutoff e.id xs solved mine (pivoted l e.id R (δ e.id)) f e≢0 H.up solves.1 h m)

    module _ (m-rows : marks_of (substitute_in_rows cut e.id xs solved (drop_row l bs)) ≡ all_whole) where
      other-rows : (j : ℕ) → j ≢ e.id → j ≢ l
          → RowAt xs (after-sub cut e.id xs solved (find_row j bs)) (B j) (pivotZ l e.id R j)
      unfolding after-sub
      other-rows j ne nl = go (find_row j bs) refl (H.rows j)
        where
          go : (t : Option Row) → find_row j bs ≡ t → RowAt xs t (B j) (R j) → RowAt xs (after-sub cut e.id xs solved t) (B j) (pivotZ l e.id R j)
          go none q h = h
          go (some r) q h = (h.0, sub_row r (R j) h.1 (find-mark cut e.id xs solved j (drop_row l bs) r m-rows (find-drop-other j l bs nl ∙ q)))

      found-other : (j : ℕ) → j ≢ e.id → find_row j (keep_row (record { symbol = e; row = solved }) (rows_of (substitute_in_rows cut e.id xs solved (drop_row l bs)))) ≡ after-sub cut e.id xs solved (find_row j (drop_row l bs))
      found-other j ne = find-keep-other j (record { symbol = e; row = solved }) (rows_of (substitute_in_rows cut e.id xs solved (drop_row l bs))) ne ∙ find-sub cut e.id xs solved j (drop_row l bs)

      gone-e : find_row e.id (rows_of (substitute_in_rows cut e.id xs solved (drop_row l bs))) ≡ none
      unfolding after-sub
      gone-e = find-sub cut e.id xs solved e.id (drop_row l bs) ∙ ap (after-sub cut e.id xs solved) (find-drop-other e.id l bs (λ p. l≢e (sym p)) ∙ no-e)

      all-rows : (j : ℕ) → RowAt xs (find_row j (keep_row (record { symbol = e; row = solved }) (rows_of (substitute_in_rows cut e.id xs solved (drop_row l bs))))) (swap l e.id B j) (pivotZ l e.id R j)
      unfolding after-sub
      all-rows j = go (swapped l e.id B j)
        where
          go : Swapped l e.id B j → RowAt xs (find_row j (keep_row (record { symbol = e; row = solved }) (rows_of (substitute_in_rows cut e.id xs solved (drop_row l bs))))) (swap l e.id B j) (pivotZ l e.id R j)
          go (enters p q) =
              subst (λ (t : Option Row). RowAt xs t (swap l e.id B j) (pivotZ l e.id R j))
              (sym (find-keep-same j (record { symbol = e; row = solved }) (rows_of (substitute_in_rows cut e.id xs solved (drop_row l bs))) p (ap (λ (i : ℕ). find_row i (rows_of (substitute_in_rows cut e.id xs solved (drop_row l bs)))) p ∙ gone-e)))
              (q, row-to xs solved (pivoted l e.id R (δ e.id)) (pivotZ l e.id R j) same_row solves.1)
            where
              same_row : (i : ℕ) → pivoted l e.id R (δ e.id) i ≡ pivotZ l e.id R j i
              same_row i =
                  ap₂ (λ (x y : ℤ). x +ℤ neg_ℤ (y *ℤ R l e.id) *ℤ eqn R l i) (sym (ap (λ (t : ℕ). R t i) p ∙ unit i)) (sym (ap (λ (t : ℕ). R t e.id) p ∙ unit e.id))
          go (leaves p q) =
              subst (λ (t : Option Row). RowAt xs t (swap l e.id B j) (pivotZ l e.id R j))
              (sym (found-other j (λ z. l≢e (sym p ∙ z)) ∙ ap (after-sub cut e.id xs solved) (ap (λ (i : ℕ). find_row i (drop_row l bs)) p ∙ find-drop-same l 0 bs H.rows-up))) q
          go (stays ne nl q) =
              subst (λ (t : Option Row). RowAt xs t (swap l e.id B j) (pivotZ l e.id R j)) (sym (found-other j ne ∙ ap (after-sub cut e.id xs solved) (find-drop-other j l bs nl)))
              (subst (λ (t : Bool). RowAt xs (after-sub cut e.id xs solved (find_row j bs)) t (pivotZ l e.id R j)) (sym q) (other-rows j ne nl))

      out-beyond : (f : Vec) → Outside xs f → Outside xs (pivoted l e.id R f)
      out-beyond f h i n m =
          ap₂ (λ (x y : ℤ). x +ℤ neg_ℤ (f e.id *ℤ R l e.id) *ℤ y) (h i n m) (ap₂ (λ (x y : ℤ). x +ℤ negsuc 0 *ℤ y) (row-l.outside i n m) (δ-other (in-not_in i l xs l-in m)))
          ∙ ring (f e.id ∷ R l e.id ∷ []) (κ 0ℤ ⊞ (⊟ (v 0 ⊠ v 1)) ⊠ (κ 0ℤ ⊞ κ (negsuc 0) ⊠ κ 0ℤ)) (κ 0ℤ) tt

      art-sub : (t : Option Row) → ArtAt xs t a → art-mark cut e.id xs solved t ≡ all_whole → ArtAt xs (after-sub cut e.id xs solved t) (pivoted l e.id R a)
      unfolding after-sub art-mark
      art-sub none h m = tt
      art-sub (some r) h m = sub_row r a h m

      pub pivot-table : cell_marks objective_bound (substitute_in_cells cut e.id xs solved.cells cs) ≡ all_whole → art-mark cut e.id xs solved art ≡ all_whole
          → ReadsTable kind cut xs (keep_row (record { symbol = e; row = solved }) (rows_of (substitute_in_rows cut e.id xs solved (drop_row l bs))))
          (cell_values (substitute_in_cells cut e.id xs solved.cells cs)) (after-sub cut e.id xs solved art) (swap l e.id B) (pivotZ l e.id R) (pivoted l e.id R o) (pivoted l e.id R a)
      pivot-table m-cells m-art = record {
        up = H.up;
        kinds = H.kinds;
        unknown = H.unknown;
        rows-up = keep-up 0 (record { symbol = e; row = solved }) (rows_of (substitute_in_rows cut e.id xs solved (drop_row l bs))) (in-above 0 e.id xs H.up live.0) gone-e
            (sub-up cut e.id xs solved 0 (drop_row l bs) (drop-up l 0 bs H.rows-up));
        rows-live = keep_all (Live kind xs) (record { symbol = e; row = solved }) (rows_of (substitute_in_rows cut e.id xs solved (drop_row l bs))) live
            (sub-all cut e.id xs solved (Live kind xs) (drop_row l bs) (drop_all (Live kind xs) l bs H.rows-live));
        rows = all-rows;
        objective = reads-to (2 ^ 40) xs (cell_values (substitute_in_cells cut e.id xs solved.cells cs)) (plus (cleared e.id o) (o e.id) (pivoted l e.id R (δ e.id))) (pivoted l e.id R o)
            (λ x _. substituted-row e.id (R l e.id) (eqn R l) o x.id)
            (substitute_in_cells-z cut H.cutoff e.id xs solved.cells cs (pivoted l e.id R (δ e.id)) o e≢0 H.up solves.1.cells H.objective H.beyond m-cells);
        beyond = out-beyond o H.beyond;
        artificial = art-sub art H.artificial m-art;
        cutoff = H.cutoff;
      }

-- ---- a table over other words for the same lists
pub moved : {kind : ℕ → KindZ} {cut cut' : Float} {xs xs' : List Symbol} {bs bs' : List Basic} {cs cs' : List Float} {t t' : Option Row} {B' : Mask} {R' : ℕ → Vec} {o' a' : Vec}
    → cut' ≡ cut → xs' ≡ xs → bs' ≡ bs → cs' ≡ cs → t' ≡ t → ReadsTable kind cut xs bs cs t B' R' o' a' → ReadsTable kind cut' xs' bs' cs' t' B' R' o' a'
moved {kind} {cut} {cut'} {xs} {xs'} {bs} {bs'} {cs} {cs'} {t} {t'} {B'} {R'} {o'} {a'} z p q r u h =
    subst (λ (y : Float). ReadsTable kind y xs' bs' cs' t' B' R' o' a') (sym z)
    (subst (λ (y : List Symbol). ReadsTable kind cut y bs' cs' t' B' R' o' a') (sym p)
    (subst (λ (y : List Basic). ReadsTable kind cut xs y cs' t' B' R' o' a') (sym q)
    (subst (λ (y : List Float). ReadsTable kind cut xs bs y t' B' R' o' a') (sym r) (subst (λ (y : Option Row). ReadsTable kind cut xs bs cs y B' R' o' a') (sym u) h))))

-- ---- THE PIVOT LEMMA: a pivot of the steps that keeps the mark is on 1 or -1 and is the theory's
module _ (kind : ℕ → KindZ) (w : Work) (B : Mask) (R : ℕ → Vec) (o a : Vec) (H : ReadsWork kind w B R o a)
    (l : ℕ) (e : Symbol) (hl : B l ≡ true) (he : B e.id ≡ false) (live : Live kind w.tableau.symbols e) (unit : (i : ℕ) → R e.id i ≡ δ e.id i) where
  pub row_of : (r : Row) × (find_row l w.tableau.rows ≡ some r)
  row_of = go (find_row l w.tableau.rows) refl (H.rows l)
    where
      go : (t : Option Row) → find_row l w.tableau.rows ≡ t → RowAt w.tableau.symbols t (B l) (R l) → (r : Row) × (find_row l w.tableau.rows ≡ some r)
      go none q h = clash-bool hl h
      go (some r) q h = (r, q)

  pivot-is : (row : Row) → find_row l w.tableau.rows ≡ some row
      → pivot l e w ≡ enter_basis e (solve_for_symbols w.tableau.cutoff l e.id w.tableau.symbols row).row (marking (solve_for_symbols w.tableau.cutoff l e.id w.tableau.symbols row).mark (with_rows (drop_row l w.tableau.rows) w))
  unfolding pivot
  pivot-is row q = rw (q, pivot) refl

  from_parts : (row : Row) → find_row l w.tableau.rows ≡ some row → (x : Work)
      → Parts e (solve_for_symbols w.tableau.cutoff l e.id w.tableau.symbols row).row (marking (solve_for_symbols w.tableau.cutoff l e.id w.tableau.symbols row).mark (with_rows (drop_row l w.tableau.rows) w)) x → x.mark ≡ all_whole
      → (w.mark ≡ all_whole) × (R l e.id *ℤ R l e.id ≡ 1ℤ) × ReadsWork kind x (swap l e.id B) (pivotZ l e.id R) (pivoted l e.id R o) (pivoted l e.id R a)
  unfolding marking with_rows with_tableau
  from_parts row hit x p m =
      let xs : List Symbol = w.tableau.symbols in
      let bs : List Basic = w.tableau.rows in
      let cs : List Float = w.tableau.objective in
      let solved : Written = solve_for_symbols w.tableau.cutoff l e.id xs row in
      let m1 : Mark = worse w.mark solved.mark in
      let m2 : Mark = marks_of (substitute_in_rows w.tableau.cutoff e.id xs solved.row (drop_row l bs)) in
      let m3 : Mark = cell_marks objective_bound (substitute_in_cells w.tableau.cutoff e.id xs solved.row.cells cs) in
      let m4 : Mark = art-mark w.tableau.cutoff e.id xs solved.row w.artificial in
      let all : worse m1 (worse m2 (worse m3 m4)) ≡ all_whole = sym p.mark ∙ m in
      let late : worse m2 (worse m3 m4) ≡ all_whole = worse-r m1 (worse m2 (worse m3 m4)) all in
      let last : worse m3 m4 ≡ all_whole = worse-r m2 (worse m3 m4) late in
      let early : worse w.mark solved.mark ≡ all_whole = worse-l m1 (worse m2 (worse m3 m4)) all in
      let ms : solved.mark ≡ all_whole = worse-r w.mark solved.mark early in
      let table = pivot-table kind w.tableau.cutoff xs bs cs w.artificial B R o a H l e hl he live unit row hit ms (worse-l m2 (worse m3 m4) late) (worse-l m3 m4 last) (worse-r m3 m4 last) in (
        worse-l w.mark solved.mark early,
        pivot-unit kind w.tableau.cutoff xs bs cs w.artificial B R o a H l e hl he live unit row hit ms,
        moved p.cutoff p.symbols p.rows p.objective p.artificial table,
      )

  pub pivot-z : (pivot l e w).mark ≡ all_whole
      → (w.mark ≡ all_whole) × (R l e.id *ℤ R l e.id ≡ 1ℤ) × ReadsWork kind (pivot l e w) (swap l e.id B) (pivotZ l e.id R) (pivoted l e.id R o) (pivoted l e.id R a)
  pivot-z m =
      let row : Row = row_of.0 in
      let v : Work = marking (solve_for_symbols w.tableau.cutoff l e.id w.tableau.symbols row).mark (with_rows (drop_row l w.tableau.rows) w) in
      from_parts row row_of.1 (pivot l e w)
      (subst (Parts e (solve_for_symbols w.tableau.cutoff l e.id w.tableau.symbols row).row v) (sym (pivot-is row row_of.1)) (enter-parts e (solve_for_symbols w.tableau.cutoff l e.id w.tableau.symbols row).row v)) m
