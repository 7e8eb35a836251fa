-- The objective's new cells; the state after a reset; a symbol that goes with its row, its place and its cells: the theory's `killed`. Assumes nothing.
use Rattle.std.specs.Prelude.{◌≡◌, refl, ◌⊎◌, ◌≢◌, ℕ, ◌^◌, ◌≤◌, Bool, true, ℤ, nat_abs, ◌+ℤ◌, ◌*ℤ◌, Float}
use Rattle.std.proofs.Common.{sym, ap₂, ◌∙◌, subst, inl, inr, arith}
use Rattle.std.proofs.Math.Path.{ap}
use mathlib.Core.List.{List, [], ◌∷◌, map}
use Rattle.std.proofs.Math.Option.{Option, none, some}
use Rattle.std.proofs.Math.Bool.{false}
use Rattle.laws.specs.exact.Whole.{IsZ}
use Rattle.laws.specs.Ring.{ring, v, k as κ, ◌⊞◌, ◌⊠◌}
use Rattle.simplex.specs.Ord.{0ℤ}
use Rattle.simplex.specs.Lin.{Vec, δ, δ-other, plus}
use Rattle.simplex.specs.At.{at, At, here, there, at?, at_there}
use Rattle.simplex.specs.Choose.{All}
use Rattle.simplex.specs.Change.{killed}
use Rattle.simplex.specs.Basis.{Mask}
use Rattle.simplex.specs.Opt.{Kind as KindZ, const, external}
use Rattle.steps.specs.Number.{objective_bound, cutoff_fits, all_whole}
use Rattle.steps.specs.Symbol.{Symbol, is_symbol, delete_cell, delete_symbol}
use Rattle.steps.specs.Row.{Row, cell_marks, insert_symbol}
use Rattle.steps.specs.State.{Basic}
use Rattle.steps.specs.Work.{Work, marking, with_tableau, with_objective, find_row, drop_row, purge}
use Rattle.steps.specs.CreateRow.{insert_in_objective}
use Rattle.simplex.specs.bridge.Nums.{worse-l, worse-r, objective_bound-z}
use Rattle.simplex.specs.bridge.Rows.{Reads, NotIn, In, Up, Outside, Sym?, is, isnt, sym?, zb-to, up-not_in, reads-to, written, insert_symbol-z, ReadsRow}
use Rattle.simplex.specs.bridge.Finds.{UpRows, find-hit, find-miss, find_none, find-drop-same, find-drop-other, drop-up}
use Rattle.simplex.specs.bridge.Table.{kind_of, RowAt, ArtAt, Live, ReadsTable, ReadsWork, in-not_in}

-- ---- "in the objective with the strength"
pub objective-z : (kind : ℕ → KindZ) (w : Work) (B : Mask) (R : ℕ → Vec) (o a : Vec) → ReadsWork kind w B R o a → (s : ℕ) → In s w.tableau.symbols → {k : Float} {q : ℤ} → IsZ k q → nat_abs q ≤ 2 ^ 40
    → (insert_in_objective s k w).mark ≡ all_whole → (w.mark ≡ all_whole) × ReadsWork kind (insert_in_objective s k w) B R (plus o q (δ s)) a
unfolding insert_in_objective marking with_objective with_tableau
objective-z kind w B R o a H s i {k} {q} K l m = (
  worse-l w.mark (cell_marks objective_bound (insert_symbol w.tableau.cutoff s k w.tableau.symbols w.tableau.objective)) m,
  record {
    up = H.up;
    kinds = H.kinds;
    unknown = H.unknown;
    rows-up = H.rows-up;
    rows-live = H.rows-live;
    rows = H.rows;
    objective = written (2 ^ 40) objective_bound objective_bound-z w.tableau.symbols (insert_symbol w.tableau.cutoff s k w.tableau.symbols w.tableau.objective) (plus o q (δ s))
        (insert_symbol-z w.tableau.cutoff H.cutoff (2 ^ 40) s K (omega arith) w.tableau.symbols w.tableau.objective o H.objective)
        (worse-r w.mark (cell_marks objective_bound (insert_symbol w.tableau.cutoff s k w.tableau.symbols w.tableau.objective)) m);
    beyond = λ j n x. ap₂ (λ (y z : ℤ). y +ℤ q *ℤ z) (H.beyond j n x) (δ-other (in-not_in j s w.tableau.symbols i x)) ∙ ring (q ∷ []) (κ 0ℤ ⊞ v 0 ⊠ κ 0ℤ) (κ 0ℤ) tt;
    artificial = H.artificial;
    cutoff = H.cutoff;
  },
)

-- ---- after a reset: no symbol, no row
pub reset-z : (cut : Float) → cutoff_fits cut ≡ true → (next : ℕ) (a : Vec) → ReadsTable (at 0 const (λ _. external)) cut [] [] [] none (λ _. false) δ (λ _. 0ℤ) a
reset-z cut fits next a = record {
  up = tt;
  kinds = tt;
  unknown = λ i n m. at_there 0 const (λ _. external) i n;
  rows-up = tt;
  rows-live = tt;
  rows = λ j. subst (λ (t : Option Row). RowAt [] t false (δ j)) (sym (find_none j)) refl;
  objective = tt;
  beyond = λ i n m. refl;
  artificial = tt;
  cutoff = fits;
}

-- ---- a symbol goes
delete-up : (s i : ℕ) (xs : List Symbol) → Up i xs → Up i (delete_symbol s xs)
unfolding delete_symbol
delete-up s i [] u = tt
delete-up s i (x ∷ xs) u = go (is_symbol s x) (delete-up s x.id xs u.1)
  where
    lower : (xs : List Symbol) → Up x.id xs → Up i xs
    lower [] w = tt
    lower (y ∷ ys) w = (omega (arith, u.0, w.0), w.1)

    go : (t : Bool) → Up x.id (delete_symbol s xs) → Up i (elim t [ true ↦ xs | false ↦ x ∷ delete_symbol s xs ])
    go true ih = lower xs u.1
    go false ih = (u.0, ih)

pub delete-in : (s j : ℕ) (xs : List Symbol) → j ≢ s → In j xs → In j (delete_symbol s xs)
unfolding delete_symbol
delete-in s j [] n m = absurd m
delete-in s j (x ∷ xs) n m = go (sym? s x) m (delete-in s j xs n)
  where
    go : Sym? s x → (j ≡ x.id) ⊎ In j xs → (In j xs → In j (delete_symbol s xs)) → In j (elim (is_symbol s x) [ true ↦ xs | false ↦ x ∷ delete_symbol s xs ])
    go (is e p d) (inl q) ih = absurd (n (q ∙ sym p))
    go (is e p d) (inr m) ih = rw e m
    go (isnt e p d) (inl q) ih = rw e (inl q)
    go (isnt e p d) (inr m) ih = rw e (inr (ih m))

delete-not_in : (s j : ℕ) (xs : List Symbol) → j ≢ s → NotIn j (delete_symbol s xs) → NotIn j xs
unfolding delete_symbol
delete-not_in s j [] n m = tt
delete-not_in s j (x ∷ xs) n m = go (sym? s x) m (delete-not_in s j xs n)
  where
    go : Sym? s x → NotIn j (elim (is_symbol s x) [ true ↦ xs | false ↦ x ∷ delete_symbol s xs ]) → (NotIn j (delete_symbol s xs) → NotIn j xs) → NotIn j (x ∷ xs)
    go (is e p d) m ih = ((λ q. n (q ∙ sym p)), rw e at m)
    go (isnt e p d) m ih = let h : NotIn j (x ∷ delete_symbol s xs) = rw e at m in (h.0, ih h.1)

apart-cells : (s : ℕ) (f : Vec) (xs : List Symbol) → NotIn s xs → (x : Symbol) → In x.id xs → f x.id ≡ at s 0ℤ f x.id
apart-cells s f xs m x i = sym (at_there s 0ℤ f x.id (λ e. in-not_in s x.id xs i m e))

delete-reads : (b s i : ℕ) (xs : List Symbol) (cs : List Float) (f : Vec) → Up i xs → Reads b xs cs f → Reads b (delete_symbol s xs) (delete_cell s xs cs) (at s 0ℤ f)
unfolding delete_symbol delete_cell
delete-reads b s i [] [] f u h = tt
delete-reads b s i [] (c ∷ cs) f u h = absurd h
delete-reads b s i (x ∷ xs) [] f u h = absurd h
delete-reads b s i (x ∷ xs) (c ∷ cs) f u h = go (sym? s x) (delete-reads b s x.id xs cs f u.1 h.1)
  where
    go : Sym? s x → Reads b (delete_symbol s xs) (delete_cell s xs cs) (at s 0ℤ f)
        → Reads b (elim (is_symbol s x) [ true ↦ xs | false ↦ x ∷ delete_symbol s xs ]) (elim (is_symbol s x) [ true ↦ cs | false ↦ c ∷ delete_cell s xs cs ]) (at s 0ℤ f)
    go (is e p d) ih = rw e (reads-to b xs cs f (at s 0ℤ f) (apart-cells s f xs (up-not_in s x.id xs (omega arith) u.1)) h.1)
    go (isnt e p d) ih = rw e (zb-to h.0 (sym (at_there s 0ℤ f x.id (λ q. p (sym q)))), ih)

delete-kinds : (kind : ℕ → KindZ) (s i : ℕ) (xs : List Symbol) → Up i xs → All (λ (x : Symbol). kind x.id ≡ kind_of x.kind) xs → All (λ (x : Symbol). at s external kind x.id ≡ kind_of x.kind) (delete_symbol s xs)
unfolding delete_symbol
delete-kinds kind s i [] u k = tt
delete-kinds kind s i (x ∷ xs) u k = go (sym? s x) (delete-kinds kind s x.id xs u.1 k.1)
  where
    all : (xs : List Symbol) → NotIn s xs → All (λ (x : Symbol). kind x.id ≡ kind_of x.kind) xs → All (λ (x : Symbol). at s external kind x.id ≡ kind_of x.kind) xs
    all [] m k = tt
    all (y ∷ ys) m k = (at_there s external kind y.id (λ e. m.0 (sym e)) ∙ k.0, all ys m.1 k.1)

    go : Sym? s x → All (λ (x : Symbol). at s external kind x.id ≡ kind_of x.kind) (delete_symbol s xs)
        → All (λ (x : Symbol). at s external kind x.id ≡ kind_of x.kind) (elim (is_symbol s x) [ true ↦ xs | false ↦ x ∷ delete_symbol s xs ])
    go (is e p d) ih = rw e (all xs (up-not_in s x.id xs (omega arith) u.1) k.1)
    go (isnt e p d) ih = rw e (at_there s external kind x.id (λ q. p (sym q)) ∙ k.0, ih)

module _ (kind : ℕ → KindZ) (w : Work) (B : Mask) (R : ℕ → Vec) (o a : Vec) (H : ReadsWork kind w B R o a) (s : ℕ) (s≢0 : s ≢ 0) (no-art : w.artificial ≡ none) where
  abbrev xs : List Symbol
  xs = w.tableau.symbols

  abbrev cut : Row → Row
  cut r = record { constant = r.constant; cells = delete_cell s w.tableau.symbols r.cells }

  abbrev cuts : List Basic → List Basic
  cuts bs = map (λ (b : Basic). record { symbol = b.symbol; row = cut b.row }) bs

  cut_at : Option Row → Option Row
  cut_at none = none
  cut_at (some r) = some (cut r)

  find-cut : (j : ℕ) (bs : List Basic) → find_row j (cuts bs) ≡ cut_at (find_row j bs)
  unfolding cut_at
  find-cut j [] = find_none j ∙ ap cut_at (sym (find_none j))
  find-cut j (b ∷ bs) = go (sym? j b.symbol) (find-cut j bs)
    where
      go : Sym? j b.symbol → find_row j (cuts bs) ≡ cut_at (find_row j bs) → find_row j (cuts (b ∷ bs)) ≡ cut_at (find_row j (b ∷ bs))
      go (is e p d) ih = find-hit j (record { symbol = b.symbol; row = cut b.row }) (cuts bs) e ∙ ap cut_at (sym (find-hit j b bs e))
      go (isnt e p d) ih = find-miss j (record { symbol = b.symbol; row = cut b.row }) (cuts bs) e ∙ ih ∙ ap cut_at (sym (find-miss j b bs e))

  cuts-up : (i : ℕ) (bs : List Basic) → UpRows i bs → UpRows i (cuts bs)
  cuts-up i [] u = tt
  cuts-up i (b ∷ bs) u = (u.0, cuts-up b.symbol.id bs u.1)

  cut-outside : (f : Vec) → Outside xs f → Outside (delete_symbol s xs) (at s 0ℤ f)
  cut-outside f h i n m = go (at? s 0ℤ f i)
    where
      go : At s 0ℤ f i → at s 0ℤ f i ≡ 0ℤ
      go (here p q) = q
      go (there p q) = q ∙ h i n (delete-not_in s i xs p m)

  cut-reads : (r : Row) (f : Vec) → ReadsRow xs r f → ReadsRow (delete_symbol s xs) (cut r) (at s 0ℤ f)
  cut-reads r f h = record {
    constant = zb-to h.constant (sym (at_there s 0ℤ f 0 (λ e. s≢0 (sym e))));
    cells = delete-reads 1024 s 0 xs r.cells f H.up h.cells;
    outside = cut-outside f h.outside;
  }

  rows_left : (j : ℕ) → RowAt (delete_symbol s xs) (find_row j (cuts (drop_row s w.tableau.rows))) (at s false B j) (killed s R j)
  unfolding cut_at
  rows_left j = go (at? s false B j)
    where
      some-row : j ≢ s → (t : Option Row) → RowAt xs t (B j) (R j) → RowAt (delete_symbol s xs) (cut_at t) (B j) (at s 0ℤ (R j))
      some-row n none h = h
      some-row n (some r) h = (h.0, cut-reads r (R j) h.1)

      killed-other : j ≢ s → killed s R j ≡ at s 0ℤ (R j)
      killed-other n = unfold killed in at_there s (δ s) (λ j. at s 0ℤ (R j)) j n

      go : At s false B j → RowAt (delete_symbol s xs) (find_row j (cuts (drop_row s w.tableau.rows))) (at s false B j) (killed s R j)
      go (here p q) =
          subst (λ (t : Option Row). RowAt (delete_symbol s xs) t (at s false B j) (killed s R j))
          (sym (find-cut j (drop_row s w.tableau.rows) ∙ ap cut_at (ap (λ (i : ℕ). find_row i (drop_row s w.tableau.rows)) p ∙ find-drop-same s 0 w.tableau.rows H.rows-up))) q
      go (there p q) =
          subst (λ (t : Option Row). RowAt (delete_symbol s xs) t (at s false B j) (killed s R j)) (sym (find-cut j (drop_row s w.tableau.rows) ∙ ap cut_at (find-drop-other j s w.tableau.rows p)))
          (subst (λ (t : Bool). RowAt (delete_symbol s xs) (cut_at (find_row j w.tableau.rows)) t (killed s R j)) (sym q)
          (subst (RowAt (delete_symbol s xs) (cut_at (find_row j w.tableau.rows)) (B j)) (sym (killed-other p)) (some-row p (find_row j w.tableau.rows) (H.rows j))))

  -- the rows that stay have other symbols
  live-left : (bs : List Basic) (i : ℕ) → UpRows i bs → All (λ (b : Basic). Live kind xs b.symbol) bs → All (λ (b : Basic). Live (at s external kind) (delete_symbol s xs) b.symbol) (cuts (drop_row s bs))
  unfolding drop_row
  live-left [] i u l = tt
  live-left (b ∷ bs) i u l = go (sym? s b.symbol) (live-left bs b.symbol.id u.1 l.1)
    where
      one : (b : Basic) → s ≢ b.symbol.id → Live kind xs b.symbol → Live (at s external kind) (delete_symbol s xs) b.symbol
      one b n h = (delete-in s b.symbol.id xs (λ e. n (sym e)) h.0, at_there s external kind b.symbol.id (λ e. n (sym e)) ∙ h.1)

      later : (bs : List Basic) (i : ℕ) → s ≤ i → UpRows i bs → All (λ (b : Basic). Live kind xs b.symbol) bs → All (λ (b : Basic). Live (at s external kind) (delete_symbol s xs) b.symbol) (cuts bs)
      later [] i h u l = tt
      later (c ∷ cs) i h u l = (one c (λ e. omega (arith, u.0)) l.0, later cs c.symbol.id (omega (arith, u.0)) u.1 l.1)

      go : Sym? s b.symbol → All (λ (b : Basic). Live (at s external kind) (delete_symbol s xs) b.symbol) (cuts (drop_row s bs))
          → All (λ (b : Basic). Live (at s external kind) (delete_symbol s xs) b.symbol) (cuts (elim (is_symbol s b.symbol) [ true ↦ bs | false ↦ b ∷ drop_row s bs ]))
      go (is e p d) ih = rw e (later bs b.symbol.id (omega arith) u.1 l.1)
      go (isnt e p d) ih = rw e (one b p l.0, ih)

  none_reads : (t : Option Row) → t ≡ none → ArtAt (delete_symbol s xs) t a
  none_reads t e = subst (λ (t : Option Row). ArtAt (delete_symbol s xs) t a) (sym e) tt

  pub purge-z : ReadsWork (at s external kind) (purge s w) (at s false B) (killed s R) (at s 0ℤ o) a
  unfolding purge with_tableau
  purge-z = record {
    up = delete-up s 0 xs H.up;
    kinds = delete-kinds kind s 0 xs H.up H.kinds;
    unknown = λ i n m. elim (at? s external kind i) [ here p q ↦ q | there p q ↦ q ∙ H.unknown i n (delete-not_in s i xs p m) ];
    rows-up = cuts-up 0 (drop_row s w.tableau.rows) (drop-up s 0 w.tableau.rows H.rows-up);
    rows-live = live-left w.tableau.rows 0 H.rows-up H.rows-live;
    rows = rows_left;
    objective = delete-reads (2 ^ 40) s 0 xs w.tableau.objective o H.up H.objective;
    beyond = cut-outside o H.beyond;
    artificial = none_reads w.artificial no-art;
    cutoff = H.cutoff;
  }
