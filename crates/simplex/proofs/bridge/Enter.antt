-- Add's pieces on whole numbers: a row that enters the basis (step 5) is the theory's `out` in every row; a new symbol's column; a term inserted; all signs reversed. Assumes nothing.
use Rattle.std.specs.Prelude.{◌≡◌, ◌≢◌, Bool, true, false, ℤ, ◌+ℤ◌, ◌*ℤ◌}
use Rattle.std.proofs.Math.Path.{refl, sym, ap, subst}
use Rattle.std.proofs.Common.{ap₂, ◌∙◌, inl, inr}
use mathlib.Core.List.{List, [], ◌∷◌, ◌++◌, map}
use Rattle.std.proofs.Math.Option.{Option, none, some}
use Prim.Native.Nat.{ℕ, zero, suc, ◌^◌, ◌<◌}
use native.Mathlib.Omega.{arith}
use Rattle.std.proofs.Math.IntN.{neg_ℤ}
use Rattle.std.specs.Float.Ieee.{Float, neg}
use Rattle.laws.specs.exact.Whole.{Zb, neg-b}
use Rattle.laws.specs.Ring.{ring, v, k as κ, ◌⊞◌, ◌⊠◌, ⊟◌}
use Rattle.simplex.specs.Ord.{0ℤ, 1ℤ}
use Rattle.simplex.specs.Lin.{Vec, δ, plus}
use Rattle.simplex.specs.At.{at, At, here, there, at?, at_here, at_there}
use Rattle.simplex.specs.Choose.{All}
use Rattle.simplex.specs.Tab.{out}
use Rattle.simplex.specs.Basis.{Mask}
use Rattle.simplex.specs.Opt.{Kind as KindZ}
use Rattle.simplex.specs.Cells.{solved-row, substituted-row}
use Rattle.steps.specs.Number.{zero64, objective_bound, Mark, all_whole, worse}
use Rattle.steps.specs.Symbol.{Symbol}
use Rattle.steps.specs.Row.{Row, stored, cell_values, cell_marks, Written, insert_row, insert_symbol_in_row, solve_for_symbol, reverse_sign, append_cell}
use Rattle.steps.specs.State.{Basic}
use Rattle.steps.specs.Work.{Work, marking, with_tableau, find_row, keep_row, append_symbol}
use Rattle.steps.specs.Substitute.{substitute_in_row, substitute_in_cells, substitute_in_rows, rows_of, marks_of, enter_basis}
use Rattle.simplex.specs.bridge.Nums.{worse-l, worse-r, zero64-z, stored-z}
use Rattle.simplex.specs.bridge.Rows.{Reads, NotIn, In, Up, Outside, Sym?, is, isnt, sym?, zb-to, ReadsRow, reads-to, cleared, Whole}
use Rattle.simplex.proofs.bridge.Rows.{row-to, solve_for_symbol-z, substitute_in_row-z, substitute_in_cells-z, insert_row-z, insert_symbol_in_row-z}
use Rattle.simplex.specs.bridge.Finds.{UpRows, find-hit, find-miss, find_none, find-keep-same, find-keep-other, after-sub, find-sub, find-mark, sub-up, sub-all, keep-up, keep_all}
use Rattle.simplex.specs.bridge.Table.{kind_of, RowAt, ArtAt, Live, ReadsTable, ReadsWork, in-above, in-nonzero, art-mark, Parts}
use Rattle.simplex.proofs.bridge.Table.{enter-parts, clash-bool, moved}

-- ---- a row enters: s reads as "the equation r, solved for e"
module _ (kind : ℕ → KindZ) (cut : Float) (xs : List Symbol) (bs : List Basic) (cs : List Float) (art : Option Row) (B : Mask) (R : ℕ → Vec) (o a : Vec) (H : ReadsTable kind cut xs bs cs art B R o a)
    (e : Symbol) (he : B e.id ≡ false) (live : Live kind xs e) (unit : (i : ℕ) → R e.id i ≡ δ e.id i) (s : Row) (r : Vec) (c : ℤ) (nothing : Outside xs r)
    (reads : ReadsRow xs s (out e.id c r (δ e.id))) where
  e≢0 : e.id ≢ 0
  e≢0 = in-nonzero e.id xs H.up live.0

  no-e : find_row e.id bs ≡ none
  no-e = go (find_row e.id bs) refl
    where
      go : (t : Option Row) → find_row e.id bs ≡ t → find_row e.id bs ≡ none
      go none q = q
      go (some r) q = clash-bool (subst (λ (t : Option Row). RowAt xs t (B e.id) (R e.id)) q (H.rows e.id)).0 he

  sub_row : (mine : Row) (f : Vec) → ReadsRow xs mine f → (substitute_in_row cut e.id xs s mine).mark ≡ all_whole → ReadsRow xs (substitute_in_row cut e.id xs s mine).row (out e.id c r f)
  sub_row mine f h m =
      row-to xs (substitute_in_row cut e.id xs s mine).row (plus (cleared e.id f) (f e.id) (out e.id c r (δ e.id))) (out e.id c r f)
      (substituted-row e.id c r f) (substitute_in_row-z cut H.cutoff e.id xs s mine (out e.id c r (δ e.id)) f e≢0 H.up reads h m)

  module _ (m-rows : marks_of (substitute_in_rows cut e.id xs s bs) ≡ all_whole) where
    gone-e : find_row e.id (rows_of (substitute_in_rows cut e.id xs s bs)) ≡ none
    unfolding after-sub
    gone-e = find-sub cut e.id xs s e.id bs ∙ ap (after-sub cut e.id xs s) no-e

    other-rows : (j : ℕ) → RowAt xs (after-sub cut e.id xs s (find_row j bs)) (B j) (out e.id c r (R j))
    unfolding after-sub
    other-rows j = go (find_row j bs) refl (H.rows j)
      where
        go : (t : Option Row) → find_row j bs ≡ t → RowAt xs t (B j) (R j) → RowAt xs (after-sub cut e.id xs s t) (B j) (out e.id c r (R j))
        go none q h = h
        go (some y) q h = (h.0, sub_row y (R j) h.1 (find-mark cut e.id xs s j bs y m-rows q))

    all-rows : (j : ℕ) → RowAt xs (find_row j (keep_row (record { symbol = e; row = s }) (rows_of (substitute_in_rows cut e.id xs s bs)))) (at e.id true B j) (out e.id c r (R j))
    all-rows j = go (at? e.id true B j)
      where
        go : At e.id true B j → RowAt xs (find_row j (keep_row (record { symbol = e; row = s }) (rows_of (substitute_in_rows cut e.id xs s bs)))) (at e.id true B j) (out e.id c r (R j))
        go (here p q) =
            subst (λ (t : Option Row). RowAt xs t (at e.id true B j) (out e.id c r (R j)))
            (sym (find-keep-same j (record { symbol = e; row = s }) (rows_of (substitute_in_rows cut e.id xs s bs)) p (ap (λ (i : ℕ). find_row i (rows_of (substitute_in_rows cut e.id xs s bs))) p ∙ gone-e)))
            (q, row-to xs s (out e.id c r (δ e.id)) (out e.id c r (R j)) (λ i. ap₂ (λ (x y : ℤ). x +ℤ neg_ℤ (y *ℤ c) *ℤ r i) (sym (ap (λ (t : ℕ). R t i) p ∙ unit i)) (sym (ap (λ (t : ℕ). R t e.id) p ∙ unit e.id))) reads)
        go (there p q) =
            subst (λ (t : Option Row). RowAt xs t (at e.id true B j) (out e.id c r (R j)))
            (sym (find-keep-other j (record { symbol = e; row = s }) (rows_of (substitute_in_rows cut e.id xs s bs)) p ∙ find-sub cut e.id xs s j bs))
            (subst (λ (t : Bool). RowAt xs (after-sub cut e.id xs s (find_row j bs)) t (out e.id c r (R j))) (sym q) (other-rows j))

    art-sub : (t : Option Row) → ArtAt xs t a → art-mark cut e.id xs s t ≡ all_whole → ArtAt xs (after-sub cut e.id xs s t) (out e.id c r a)
    unfolding after-sub art-mark
    art-sub none h m = tt
    art-sub (some y) h m = sub_row y a h m

    pub enter-table : cell_marks objective_bound (substitute_in_cells cut e.id xs s.cells cs) ≡ all_whole → art-mark cut e.id xs s art ≡ all_whole
        → ReadsTable kind cut xs (keep_row (record { symbol = e; row = s }) (rows_of (substitute_in_rows cut e.id xs s bs))) (cell_values (substitute_in_cells cut e.id xs s.cells cs)) (after-sub cut e.id xs s art)
        (at e.id true B) (λ j. out e.id c r (R j)) (out e.id c r o) (out e.id c r a)
    enter-table m-cells m-art = record {
      up = H.up;
      kinds = H.kinds;
      unknown = H.unknown;
      rows-up = keep-up 0 (record { symbol = e; row = s }) (rows_of (substitute_in_rows cut e.id xs s bs)) (in-above 0 e.id xs H.up live.0) gone-e (sub-up cut e.id xs s 0 bs H.rows-up);
      rows-live = keep_all (Live kind xs) (record { symbol = e; row = s }) (rows_of (substitute_in_rows cut e.id xs s bs)) live (sub-all cut e.id xs s (Live kind xs) bs H.rows-live);
      rows = all-rows;
      objective = reads-to (2 ^ 40) xs (cell_values (substitute_in_cells cut e.id xs s.cells cs)) (plus (cleared e.id o) (o e.id) (out e.id c r (δ e.id))) (out e.id c r o)
          (λ x _. substituted-row e.id c r o x.id)
          (substitute_in_cells-z cut H.cutoff e.id xs s.cells cs (out e.id c r (δ e.id)) o e≢0 H.up reads.cells H.objective H.beyond m-cells);
      beyond = λ i n m. ap₂ (λ (x y : ℤ). x +ℤ neg_ℤ (o e.id *ℤ c) *ℤ y) (H.beyond i n m) (nothing i n m) ∙ ring (o e.id ∷ c ∷ []) (κ 0ℤ ⊞ (⊟ (v 0 ⊠ v 1)) ⊠ κ 0ℤ) (κ 0ℤ) tt;
      artificial = art-sub art H.artificial m-art;
      cutoff = H.cutoff;
    }

-- STEP 5: the row r is solved for e and enters: e's cell is 1 or -1, and every row loses e by the equation "r is 0"
module _ (kind : ℕ → KindZ) (w : Work) (B : Mask) (R : ℕ → Vec) (o a : Vec) (H : ReadsWork kind w B R o a)
    (e : Symbol) (he : B e.id ≡ false) (live : Live kind w.tableau.symbols e) (unit : (i : ℕ) → R e.id i ≡ δ e.id i) (row : Row) (r : Vec) (reads : ReadsRow w.tableau.symbols row r) where
  abbrev xs : List Symbol
  xs = w.tableau.symbols

  from_parts : (x : Work) → Parts e (solve_for_symbol e.id xs row).row (marking (solve_for_symbol e.id xs row).mark w) x → x.mark ≡ all_whole
      → (r e.id *ℤ r e.id ≡ 1ℤ) × ReadsWork kind x (at e.id true B) (λ j. out e.id (r e.id) r (R j)) (out e.id (r e.id) r o) (out e.id (r e.id) r a)
  unfolding marking
  from_parts x p m =
      let bs : List Basic = w.tableau.rows in
      let cs : List Float = w.tableau.objective in
      let solved : Written = solve_for_symbol e.id xs row in
      let m1 : Mark = worse w.mark solved.mark in
      let m2 : Mark = marks_of (substitute_in_rows w.tableau.cutoff e.id xs solved.row bs) in
      let m3 : Mark = cell_marks objective_bound (substitute_in_cells w.tableau.cutoff e.id xs solved.row.cells cs) in
      let m4 : Mark = art-mark w.tableau.cutoff e.id xs solved.row w.artificial in
      let all : worse m1 (worse m2 (worse m3 m4)) ≡ all_whole = sym p.mark ∙ m in
      let late : worse m2 (worse m3 m4) ≡ all_whole = worse-r m1 (worse m2 (worse m3 m4)) all in
      let last : worse m3 m4 ≡ all_whole = worse-r m2 (worse m3 m4) late in
      let early : worse w.mark solved.mark ≡ all_whole = worse-l m1 (worse m2 (worse m3 m4)) all in
      let S = solve_for_symbol-z e.id xs row r (in-nonzero e.id xs H.up live.0) H.up reads (worse-r w.mark solved.mark early) in
      let solved-z = row-to xs solved.row (λ j. neg_ℤ (r e.id) *ℤ cleared e.id r j) (out e.id (r e.id) r (δ e.id)) (λ j. solved-row e.id (r e.id) r j refl S.unit) S.row in
      let table = enter-table kind w.tableau.cutoff xs bs cs w.artificial B R o a H e he live unit solved.row r (r e.id) reads.outside solved-z (worse-l m2 (worse m3 m4) late) (worse-l m3 m4 last) (worse-r m3 m4 last) in
      (S.unit, moved p.cutoff p.symbols p.rows p.objective p.artificial table)

  pub enter-z : (enter_basis e (solve_for_symbol e.id xs row).row (marking (solve_for_symbol e.id xs row).mark w)).mark ≡ all_whole
      → (r e.id *ℤ r e.id ≡ 1ℤ)
      × ReadsWork kind (enter_basis e (solve_for_symbol e.id xs row).row (marking (solve_for_symbol e.id xs row).mark w)) (at e.id true B) (λ j. out e.id (r e.id) r (R j)) (out e.id (r e.id) r o) (out e.id (r e.id) r a)
  enter-z m = from_parts (enter_basis e (solve_for_symbol e.id xs row).row (marking (solve_for_symbol e.id xs row).mark w)) (enter-parts e (solve_for_symbol e.id xs row).row (marking (solve_for_symbol e.id xs row).mark w)) m

-- ---- a new symbol: its column is empty
pub append-up : (i : ℕ) (xs : List Symbol) (s : Symbol) → Up i xs → i < s.id → ((j : ℕ) → In j xs → j < s.id) → Up i (xs ++ (s ∷ []))
append-up i [] s u l h = (l, tt)
append-up i (x ∷ xs) s u l h = (u.0, append-up x.id xs s u.1 (h x.id (inl refl)) (λ j m. h j (inr m)))

pub append-reads : (b : ℕ) (xs : List Symbol) (cs : List Float) (f : Vec) (s : Symbol) → f s.id ≡ 0ℤ → Reads b xs cs f → Reads b (xs ++ (s ∷ [])) (cs ++ (zero64 ∷ [])) f
append-reads b [] [] f s z h = (zb-to (record { isz = zero64-z; small = omega arith }) (sym z), tt)
append-reads b [] (c ∷ cs) f s z h = absurd h
append-reads b (x ∷ xs) [] f s z h = absurd h
append-reads b (x ∷ xs) (c ∷ cs) f s z h = (h.0, append-reads b xs cs f s z h.1)

append-not_in : (i : ℕ) (xs : List Symbol) (s : Symbol) → NotIn i (xs ++ (s ∷ [])) → NotIn i xs × (i ≢ s.id)
append-not_in i [] s n = (tt, n.0)
append-not_in i (x ∷ xs) s n = let t = append-not_in i xs s n.1 in ((n.0, t.0), t.1)

pub append-in : (i : ℕ) (xs : List Symbol) (s : Symbol) → In i xs → In i (xs ++ (s ∷ []))
append-in i [] s m = absurd m
append-in i (x ∷ xs) s (inl e) = inl e
append-in i (x ∷ xs) s (inr m) = inr (append-in i xs s m)

pub append-new : (xs : List Symbol) (s : Symbol) → In s.id (xs ++ (s ∷ []))
append-new [] s = inl refl
append-new (x ∷ xs) s = inr (append-new xs s)

fresh : (xs : List Symbol) (s : Symbol) → ((j : ℕ) → In j xs → j < s.id) → NotIn s.id xs
fresh [] s h = tt
fresh (x ∷ xs) s h = ((λ e. omega (arith, h x.id (inl refl))), fresh xs s (λ j m. h j (inr m)))

pub append-row : (xs : List Symbol) (r : Row) (f : Vec) (s : Symbol) → s.id ≢ 0 → ((j : ℕ) → In j xs → j < s.id) → ReadsRow xs r f → ReadsRow (xs ++ (s ∷ [])) (append_cell r) f
unfolding append_cell
append-row xs r f s n h R = record {
  constant = R.constant;
  cells = append-reads 1024 xs r.cells f s (R.outside s.id n (fresh xs s h)) R.cells;
  outside = λ i ni m. R.outside i ni (append-not_in i xs s m).0;
}

-- the table with the new symbol's place: the same theory's tableau, and one kind more
module _ (kind : ℕ → KindZ) (w : Work) (B : Mask) (R : ℕ → Vec) (o a : Vec) (H : ReadsWork kind w B R o a) (s : Symbol) (s≢0 : s.id ≢ 0) (last : (j : ℕ) → In j w.tableau.symbols → j < s.id)
    (no-art : w.artificial ≡ none) where
  kind' : ℕ → KindZ
  kind' = at s.id (kind_of s.kind) kind

  wide : Basic → Basic
  wide b = record { symbol = b.symbol; row = append_cell b.row }

  wide_row : Option Row → Option Row
  wide_row none = none
  wide_row (some r) = some (append_cell r)

  find-wide : (j : ℕ) (bs : List Basic) → find_row j (map (λ (b : Basic). record { symbol = b.symbol; row = append_cell b.row }) bs) ≡ wide_row (find_row j bs)
  unfolding wide_row
  find-wide j [] = find_none j ∙ ap wide_row (sym (find_none j))
  find-wide j (b ∷ bs) = go (sym? j b.symbol) (find-wide j bs)
    where
      go : Sym? j b.symbol → find_row j (map (λ (b : Basic). record { symbol = b.symbol; row = append_cell b.row }) bs) ≡ wide_row (find_row j bs)
          → find_row j (map (λ (b : Basic). record { symbol = b.symbol; row = append_cell b.row }) (b ∷ bs)) ≡ wide_row (find_row j (b ∷ bs))
      go (is e p d) ih = find-hit j (record { symbol = b.symbol; row = append_cell b.row }) (map (λ (b : Basic). record { symbol = b.symbol; row = append_cell b.row }) bs) e ∙ ap wide_row (sym (find-hit j b bs e))
      go (isnt e p d) ih =
          find-miss j (record { symbol = b.symbol; row = append_cell b.row }) (map (λ (b : Basic). record { symbol = b.symbol; row = append_cell b.row }) bs) e ∙ ih ∙ ap wide_row (sym (find-miss j b bs e))

  up-wide : (i : ℕ) (bs : List Basic) → UpRows i bs → UpRows i (map (λ (b : Basic). record { symbol = b.symbol; row = append_cell b.row }) bs)
  up-wide i [] u = tt
  up-wide i (b ∷ bs) u = (u.0, up-wide b.symbol.id bs u.1)

  old-kind : (x : Symbol) → In x.id w.tableau.symbols → kind x.id ≡ kind_of x.kind → kind' x.id ≡ kind_of x.kind
  unfolding kind'
  old-kind x m k = at_there s.id (kind_of s.kind) kind x.id (λ e. omega (arith, last x.id m)) ∙ k

  live-wide : (bs : List Basic) → All (λ (b : Basic). Live kind w.tableau.symbols b.symbol) bs
      → All (λ (b : Basic). Live kind' (w.tableau.symbols ++ (s ∷ [])) b.symbol) (map (λ (b : Basic). record { symbol = b.symbol; row = append_cell b.row }) bs)
  live-wide [] l = tt
  live-wide (b ∷ bs) l = ((append-in b.symbol.id w.tableau.symbols s l.0.0, old-kind b.symbol l.0.0 l.0.1), live-wide bs l.1)

  kinds-wide : (xs : List Symbol) → ((j : ℕ) → In j xs → In j w.tableau.symbols) → All (λ (x : Symbol). kind x.id ≡ kind_of x.kind) xs → All (λ (x : Symbol). kind' x.id ≡ kind_of x.kind) (xs ++ (s ∷ []))
  unfolding kind'
  kinds-wide [] f k = (at_here s.id (kind_of s.kind) kind, tt)
  kinds-wide (x ∷ xs) f k = (old-kind x (f x.id (inl refl)) k.0, kinds-wide xs (λ j m. f j (inr m)) k.1)

  rows-wide : (j : ℕ) (t : Option Row) → RowAt w.tableau.symbols t (B j) (R j) → RowAt (w.tableau.symbols ++ (s ∷ [])) (wide_row t) (B j) (R j)
  unfolding wide_row
  rows-wide j none h = h
  rows-wide j (some r) h = (h.0, append-row w.tableau.symbols r (R j) s s≢0 last h.1)

  none_reads : (t : Option Row) → t ≡ none → ArtAt (w.tableau.symbols ++ (s ∷ [])) t a
  none_reads t e = subst (λ (t : Option Row). ArtAt (w.tableau.symbols ++ (s ∷ [])) t a) (sym e) tt

  pub append-z : ReadsWork (at s.id (kind_of s.kind) kind) (append_symbol s w) B R o a
  unfolding append_symbol with_tableau kind'
  append-z = record {
    up = append-up 0 w.tableau.symbols s H.up (above s.id s≢0) last;
    kinds = kinds-wide w.tableau.symbols (λ j m. m) H.kinds;
    unknown = λ i n m. let t = append-not_in i w.tableau.symbols s m in at_there s.id (kind_of s.kind) kind i t.1 ∙ H.unknown i n t.0;
    rows-up = up-wide 0 w.tableau.rows H.rows-up;
    rows-live = live-wide w.tableau.rows H.rows-live;
    rows = λ j. subst (λ (t : Option Row). RowAt (w.tableau.symbols ++ (s ∷ [])) t (B j) (R j)) (sym (find-wide j w.tableau.rows)) (rows-wide j (find_row j w.tableau.rows) (H.rows j));
    objective = append-reads (2 ^ 40) w.tableau.symbols w.tableau.objective o s (H.beyond s.id s≢0 (fresh w.tableau.symbols s last)) H.objective;
    beyond = λ i n m. H.beyond i n (append-not_in i w.tableau.symbols s m).0;
    artificial = none_reads w.artificial no-art;
    cutoff = H.cutoff;
  }
    where
      above : (k : ℕ) → k ≢ 0 → 0 < k
      above zero n = absurd (n refl)
      above (suc k) n = omega arith

-- ---- a term: its row if basic, else its symbol, is inserted: `plus f q (R s)` in both cases
pub term-z : (kind : ℕ → KindZ) (w : Work) (B : Mask) (R : ℕ → Vec) (o a : Vec) → ReadsWork kind w B R o a → ((j : ℕ) → B j ≡ false → (i : ℕ) → R j i ≡ δ j i)
    → (s : ℕ) → In s w.tableau.symbols → {k : Float} {q : ℤ} → Zb 1024 k q → (row : Row) (f : Vec) → ReadsRow w.tableau.symbols row f
    → Whole w.tableau.symbols (plus f q (R s)) (elim (find_row s w.tableau.rows) [ none ↦ insert_symbol_in_row w.tableau.cutoff s k w.tableau.symbols row | some r ↦ insert_row w.tableau.cutoff r k row ])
term-z kind w B R o a H unit s i {k} {q} K row f h = go (find_row s w.tableau.rows) (H.rows s)
  where
    go : (t : Option Row) → RowAt w.tableau.symbols t (B s) (R s) → Whole w.tableau.symbols (plus f q (R s)) (elim t [ none ↦ insert_symbol_in_row w.tableau.cutoff s k w.tableau.symbols row | some r ↦ insert_row w.tableau.cutoff r k row ])
    go none b = λ m.
        row-to w.tableau.symbols (insert_symbol_in_row w.tableau.cutoff s k w.tableau.symbols row).row (plus f q (δ s)) (plus f q (R s)) (λ j. ap (λ (z : ℤ). f j +ℤ q *ℤ z) (sym (unit s b j)))
        (insert_symbol_in_row-z w.tableau.cutoff H.cutoff s w.tableau.symbols row f (in-nonzero s w.tableau.symbols H.up i) i K.isz K.small h m)
    go (some r) b = λ m. insert_row-z w.tableau.cutoff H.cutoff w.tableau.symbols r row (R s) f K b.1 h m

-- ---- all signs reversed
pub reverse-z : (xs : List Symbol) (r : Row) (f : Vec) → ReadsRow xs r f → ReadsRow xs (reverse_sign r) (λ j. neg_ℤ (f j))
unfolding reverse_sign
reverse-z xs r f h = record { constant = neg-b h.constant; cells = cells xs r.cells h.cells; outside = λ i n m. ap neg_ℤ (h.outside i n m) }
  where
    cells : (xs : List Symbol) (cs : List Float) → Reads 1024 xs cs f → Reads 1024 xs (map (λ (c : Float). stored (neg c)) cs) (λ j. neg_ℤ (f j))
    cells [] [] h = tt
    cells [] (c ∷ cs) h = absurd h
    cells (x ∷ xs) [] h = absurd h
    cells (x ∷ xs) (c ∷ cs) h = let n = neg-b h.0 in (record { isz = stored-z n.isz; small = n.small }, cells xs cs h.1)
