-- A symbol that goes from the sparse tables, with its cells: they read as the steps' `purge` after the row has gone. The places past it come one place down, in the rows and in the variables too.
-- Assumes nothing.
use Prim.Native.Nat.{ℕ, zero, suc, ◌+◌, ◌-◌, ◌*◌, ◌≤◌, ◌<◌}
use Rattle.std.specs.Prelude.{◌≡◌, Bool, true, cond, ltb, Float, length}
use Rattle.std.proofs.Math.Path.{refl, sym, ap}
use Rattle.std.proofs.Common.{◌∙◌, ltb-true, ltb-false, eq-eqb, ne_eqb}
use Rattle.std.proofs.Math.Bool.{false}
use mathlib.Core.List.{List, [], ◌∷◌, map}
use native.Mathlib.Omega.{arith}
use Rattle.std.proofs.Math.Dec.{eqb}
use Rattle.std.specs.Float.{nan}
use Rattle.std.proofs.Math.ListN.{get_or}
use Rattle.laws.specs.Loops.{first}
use Rattle.laws.specs.Lists.{tab, list_of, tab-ext, map-tab}
use Rattle.steps.specs.Number.{Mark}
use Rattle.steps.specs.Symbol.{Symbol, is_symbol, delete_cell, delete_symbol}
use Rattle.steps.specs.State.{Variable}
use Rattle.steps.specs.Work.{Work, with_tableau}
use Rattle.layout.specs.Laying.{tab-from}
use Rattle.std.specs.Prelude.{Some, None}
use Rattle.rows.specs.choose.Own.{first-is}
use Rattle.rows.specs.choose.Chosen.{as-cond}
use Rattle.rows.specs.moves.Walk.{drop-walk}
use Rattle.rows.specs.moves.Columns.{cut, cut_tableau}
use Rattle.sparse.specs.Places.{next_id_at, symbol_count_at, row_count_at, cell_count_at, variable_count_at, should_clear_at, gone_count_at, ids_at, variable_numbers_at, variable_uses_at, gone_numbers_at, kinds_at, row_places_at, variable_places_at, changed_at, constants_at, old_values_at, objective_at}
use Rattle.sparse.specs.Sparse.{Sparse, symbol_count, row_count, cell_count, variable_count, symbol_at, variable_of, basic_of, symbols_of, basics_of, objective_of, gone_of, read}
use Rattle.layout.specs.cells.Names.{row_span, last_place}
use Rattle.layout.specs.cells.Cells.{Cells, cell_at, row_of}
use Rattle.waist.specs.substituting.Gone.{gone-kept}
use Rattle.waist.specs.substituting.Named.{Named}
use Rattle.waist.specs.substituting.Held.{held-few}
use Rattle.waist.specs.Working.{artificial_of, work_of, work-parts, lines_of, lines_same, Sound, lines-few, id-at, basic-symbol}
use Rattle.waist.specs.Dropping.{Free, basic-by}
use Rattle.waist.specs.Standing.{Inside, Owners, Unowned}
use Rattle.waist.specs.Lowering.{near_place, near_by, near-lt, near-one, near-live}
use Rattle.waist.specs.PurgingPlaces.{Closing}
use Rattle.waist.specs.PurgingCells.{purged_cells, purged-before, purged-after, purged-inside, held-purged}

-- what stays where the symbol at place p goes, and under which places
pub record Purged (p : ℕ) (t u : Sparse) : Type 0 where
  pub symbols : symbol_count u ≡ symbol_count t - 1
  pub fewer : row_count u ≤ row_count t
  pub before : (q : ℕ) → q < p → symbol_at u q ≡ symbol_at t q
  pub after : (q : ℕ) → p < q → q ≤ symbol_count t → symbol_at u (q - 1) ≡ symbol_at t q
  -- the next id, the variables' count, numbers and uses, and the stored records' words
  pub words : (q : ℕ) → (q ≡ symbol_count_at → ⊥) → (q ≡ row_count_at → ⊥) → (q ≡ cell_count_at → ⊥) → (q ≤ ids_at → get_or u.words q 0 ≡ get_or t.words q 0) × (variable_numbers_at ≤ q → get_or u.words q 0 ≡ get_or t.words q 0)
  pub places : (v : ℕ) → v < variable_count t → get_or u.bytes (variable_places_at + v) 0 ≡ near_place p (get_or t.bytes (variable_places_at + v) 0)
  pub changed : (q : ℕ) → changed_at ≤ q → get_or u.bytes q 0 ≡ get_or t.bytes q 0
  pub olds : (q : ℕ) → old_values_at ≤ q → q ≤ objective_at → get_or u.reals q nan ≡ get_or t.reals q nan
  -- another place that no row or no variable is for
  pub frees : (q : ℕ) → (q ≡ p → ⊥) → Free q t → Free (near_place p q) u
  pub unowneds : (q : ℕ) → (q ≡ p → ⊥) → Unowned q t → Unowned (near_place p q) u

-- the work without the place and the cells of a symbol
abbrev pub cut_work : ℕ → Work → Work
cut_work s w = with_tableau (cut_tableau s w.tableau) w

pub record Closes (p : ℕ) (t u : Sparse) : Type 0 where
  pub reads : (a : Mark) (v : ℕ) → work_of false a v u ≡ cut_work (symbol_at t p).id (work_of false a v t)
  pub sound : Sound false u
  pub inside : Inside t → Inside u
  pub owners : Owners t → Owners u
  pub purged : Purged p t u

module _ (p : ℕ) (t u : Sparse) (gl : Closing p t u) (so : Sound false t) (low : 1 ≤ p) (high : p ≤ symbol_count t) (free : Free p t) (unowned : Unowned p t) where
  abbrev k : ℕ
  k = symbol_count t

  abbrev r : ℕ
  r = row_count t

  abbrev n : ℕ
  n = cell_count t

  abbrev c : Cells
  c = purged_cells n p t.keys t.values

  abbrev at : ℕ → ℕ
  at i = get_or t.bytes (row_places_at + i) 0

  abbrev own : ℕ → ℕ
  own v = get_or t.bytes (variable_places_at + v) 0

  narrow : k ≤ last_place
  narrow = so.named.few-symbols

  rows_same : row_count u ≡ r
  rows_same = gl.head row_count_at (λ e. omega (arith, e)) (λ e. omega (arith, e)) (omega arith)

  variables-same : variable_count u ≡ variable_count t
  variables-same = gl.head variable_count_at (λ e. omega (arith, e)) (λ e. omega (arith, e)) (omega arith)

  -- ---- symbols by place

  symbol-before : (q : ℕ) → q < p → symbol_at u q ≡ symbol_at t q
  unfolding symbol_at
  symbol-before q h = rw (gl.head (ids_at + q) (λ e. omega (arith, e)) (λ e. omega (arith, e)) (omega (arith, h)), gl.firsts q h) refl

  symbol-inside : (q : ℕ) → p ≤ q → q < k → symbol_at u q ≡ symbol_at t (suc q)
  unfolding symbol_at
  symbol-inside q a b = rw (gl.ids q a b, gl.kinds q a b) refl

  symbol-after : (q : ℕ) → p < q → q ≤ k → symbol_at u (q - 1) ≡ symbol_at t q
  symbol-after q a b = let o : suc (q - 1) ≡ q = omega (arith, a) in symbol-inside (q - 1) (omega (arith, a)) (omega (arith, a, b)) ∙ ap (symbol_at t) o

  symbol-near : (q : ℕ) → (q ≡ p → ⊥) → q ≤ k → symbol_at u (near_place p q) ≡ symbol_at t q
  symbol-near q d h = near_by (λ (z : ℕ). symbol_at u z ≡ symbol_at t q) p q (λ l. symbol-after q l h) (λ l. symbol-before q (omega (arith, l, d)))

  kind-near : (q : ℕ) → (q ≡ p → ⊥) → q ≤ k → get_or u.bytes (kinds_at + near_place p q) 0 ≡ get_or t.bytes (kinds_at + q) 0
  kind-near q d h =
      near_by (λ (z : ℕ). get_or u.bytes (kinds_at + z) 0 ≡ get_or t.bytes (kinds_at + q) 0) p q
      (λ l. let o : suc (q - 1) ≡ q = omega (arith, l) in gl.kinds (q - 1) (omega (arith, l)) (omega (arith, l, h)) ∙ ap (λ (z : ℕ). get_or t.bytes (kinds_at + z) 0) o)
      (λ l. gl.firsts q (omega (arith, l, d)))

  -- ---- what the tables read as

  abbrev id : ℕ
  id = (symbol_at t p).id

  abbrev asked : ℕ → Bool
  asked q = eqb id (symbol_at t q).id

  apart : (q : ℕ) → 1 ≤ q → q < p → asked q ≡ false
  apart q a b =
      let o = so.named.up q p a b high in
      ne_eqb id (symbol_at t q).id (λ e. let z = sym (id-at t p) ∙ e ∙ id-at t q in omega (arith, z, o))

  found : first asked Some None 1 (1 + suc (k - 1)) ≡ Some p
  found = first-is asked Some None 1 (1 + suc (k - 1)) p low (omega (arith, low, high)) (eq-eqb id id refl) apart

  -- cells along the symbols
  module _ (g g' : ℕ → Float) (same : (q : ℕ) → 1 ≤ q → q < p → g' q ≡ g q) (next : (q : ℕ) → p ≤ q → q < k → g' q ≡ g (suc q)) where
    abbrev cells_from : ℕ → ℕ → List Float
    cells_from i m = tab (λ j. g (1 + j)) i m

    abbrev symbols_from : ℕ → ℕ → List Symbol
    symbols_from i m = tab (λ j. symbol_at t (1 + j)) i m

    abbrev look_cells : ℕ → ℕ → List Float
    look_cells i m = delete_cell id (symbols_from i m) (cells_from i m)

    cells-end : (i : ℕ) → look_cells i zero ≡ []
    unfolding tab delete_cell
    cells-end i = refl

    cells-step : (i m : ℕ) → look_cells i (suc m) ≡ cond (asked (1 + i)) (cells_from (suc i) m) (g (1 + i) ∷ look_cells (suc i) m)
    unfolding tab delete_cell is_symbol
    cells-step i m = as-cond (eqb id (symbol_at t (1 + i)).id) (cells_from (suc i) m) (g (1 + i) ∷ look_cells (suc i) m)

    cut_cells : tab g' 1 (k - 1) ≡ delete_cell id (symbols_of t) (tab g 1 k)
    unfolding symbols_of
    cut_cells =
        let e : suc (k - 1) ≡ k = omega (arith, low, high) in
        let b : tab (λ j. g (1 + j)) 0 k ≡ tab g 1 k = tab-from g 1 0 k in
        let s : tab (λ j. symbol_at t (1 + j)) 0 k ≡ tab (symbol_at t) 1 k = tab-from (symbol_at t) 1 0 k in
        let a : tab (λ j. g' (1 + j)) 0 (k - 1) ≡ tab g' 1 (k - 1) = tab-from g' 1 0 (k - 1) in
        let walk : look_cells 0 (suc (k - 1)) ≡ tab (λ j. g' (1 + j)) 0 (k - 1) =
        drop-walk 1 asked (λ j. g (1 + j)) (λ j. g' (1 + j)) look_cells cells-end cells-step (k - 1) p found
        (λ j l. same (1 + j) (omega arith) l)
        (λ j l m. let o : suc (1 + j) ≡ 1 + suc j = omega arith in (rw o at (next (1 + j) l (omega (arith, m))))) in
        sym a ∙ sym walk ∙ ap (look_cells 0) e ∙ rw (b, s) refl

  abbrev look_symbols : ℕ → ℕ → List Symbol
  look_symbols i m = delete_symbol id (tab (λ j. symbol_at t (1 + j)) i m)

  symbols-end : (i : ℕ) → look_symbols i zero ≡ []
  unfolding tab delete_symbol
  symbols-end i = refl

  symbols-step : (i m : ℕ) → look_symbols i (suc m) ≡ cond (asked (1 + i)) (tab (λ j. symbol_at t (1 + j)) (suc i) m) (symbol_at t (1 + i) ∷ look_symbols (suc i) m)
  unfolding tab delete_symbol is_symbol
  symbols-step i m = as-cond (eqb id (symbol_at t (1 + i)).id) (tab (λ j. symbol_at t (1 + j)) (suc i) m) (symbol_at t (1 + i) ∷ look_symbols (suc i) m)

  symbols-are : symbols_of u ≡ delete_symbol id (symbols_of t)
  unfolding symbols_of
  symbols-are =
      let e : suc (k - 1) ≡ k = omega (arith, low, high) in
      let s : tab (λ j. symbol_at t (1 + j)) 0 k ≡ tab (symbol_at t) 1 k = tab-from (symbol_at t) 1 0 k in
      let a : tab (λ j. symbol_at u (1 + j)) 0 (k - 1) ≡ tab (symbol_at u) 1 (k - 1) = tab-from (symbol_at u) 1 0 (k - 1) in
      let walk : look_symbols 0 (suc (k - 1)) ≡ tab (λ j. symbol_at u (1 + j)) 0 (k - 1) =
      drop-walk 1 asked (λ j. symbol_at t (1 + j)) (λ j. symbol_at u (1 + j)) look_symbols symbols-end symbols-step (k - 1) p found
      (λ j l. symbol-before (1 + j) l)
      (λ j l m. let o : suc (1 + j) ≡ 1 + suc j = omega arith in (rw o at (symbol-inside (1 + j) l (omega (arith, m))))) in
      rw gl.less (sym a ∙ sym walk ∙ ap (look_symbols 0) e ∙ ap (delete_symbol id) s)

  objective-is : objective_of u ≡ delete_cell id (symbols_of t) (objective_of t)
  unfolding objective_of
  objective-is = rw gl.less (cut_cells (λ q. get_or t.reals (objective_at + q) nan) (λ q. get_or u.reals (objective_at + q) nan) (λ q a b. gl.reals (objective_at + q) (omega (arith, b))) gl.objective)

  in-keys : n ≤ length t.keys
  in-keys = let f = held-few (lines_of false t) n t.keys t.values so.held in let l = so.held.wide in let g = lines-few false t so in omega (arith, f, l, g)

  in-vals : n ≤ length t.values
  in-vals = let f = held-few (lines_of false t) n t.keys t.values so.held in let l = so.held.wides in let g = lines-few false t so in omega (arith, f, l, g)

  cells_are : (i : ℕ) → row_of u.keys u.values c.size (k - 1) i ≡ delete_cell id (symbols_of t) (row_of t.keys t.values n k i)
  unfolding row_of
  cells_are i =
      let l = narrow in
      rw (gl.keys, gl.values) (cut_cells (λ q. cell_at t.keys t.values n (i * row_span + q)) (λ q. cell_at c.keys c.vals c.size (i * row_span + q))
      (λ q a b. purged-before n p t.keys t.values in-keys in-vals so.held.up i q b (omega (arith, b, high, l)))
      (λ q a b. purged-after n p t.keys t.values in-keys in-vals so.held.up i q a (omega (arith, b, l))))

  -- ---- the rows and the variables

  basic-near : (i : ℕ) → 1 ≤ i → i ≤ r → (at i ≡ p → ⊥) × (1 ≤ at i) × (at i ≤ k)
  basic-near i a b = let l = so.rows i a b in (free i a b, l.0, l.1)

  row : (i : ℕ) → i ≤ r → (basic_of u i).row ≡ (cut id (symbols_of t) (basic_of t i)).row
  unfolding basic_of
  row i b = let f = so.few in rw (gl.less, gl.size, gl.reals (constants_at + i) (omega (arith, b, f, low)), cells_are i) refl

  line : (i : ℕ) → 1 ≤ i → i ≤ r → basic_of u i ≡ cut id (symbols_of t) (basic_of t i)
  line i a b =
      let l = basic-near i a b in
      basic-by (basic-symbol u i ∙ ap (symbol_at u) (gl.rows i a b) ∙ symbol-near (at i) l.0 l.2 ∙ sym (basic-symbol t i)) (row i b)

  basics-are : basics_of u ≡ map (cut id (symbols_of t)) (basics_of t)
  unfolding basics_of
  basics-are = rw (rows_same, map-tab) (tab-ext (basic_of u) (λ i. cut id (symbols_of t) (basic_of t i)) 1 r λ i a b. line i a (omega (arith, b)))

  variable-is : (v : ℕ) → v < variable_count t → variable_of u v ≡ variable_of t v
  unfolding variable_of
  variable-is v h =
      let l = so.named.variables v h in
      let f = so.named.few-variables in
      rw (
        gl.words (variable_numbers_at + v) (omega arith),
        gl.words (variable_uses_at + v) (omega arith),
        gl.owns v h,
        gl.bytes (changed_at + v) (omega arith),
        gl.reals (old_values_at + v) (omega (arith, h, f, low)),
        symbol-near (own v) (unowned v h) l.1,
      ) refl

  clear-same : get_or u.words should_clear_at 0 ≡ get_or t.words should_clear_at 0
  clear-same = gl.head should_clear_at (λ e. omega (arith, e)) (λ e. omega (arith, e)) (omega arith)

  gone_same : gone_of u ≡ gone_of t
  gone_same = gone-kept t u (gl.head gone_count_at (λ e. omega (arith, e)) (λ e. omega (arith, e)) (omega arith)) (λ j. gl.words (gone_numbers_at + j) (omega arith))

  changes-are : (read u).changes ≡ (read t).changes
  unfolding read list_of
  changes-are =
      rw (variables-same, gone_same, clear-same)
      (ap (λ (x : List Variable). record { variables = x; gone = gone_of t; should_clear = eqb (get_or t.words should_clear_at 0) 1 }) (tab-ext (variable_of u) (variable_of t) 0 (variable_count t) λ v a b. variable-is v (omega (arith, b))))

  no-artificial : artificial_of false u ≡ artificial_of false t
  unfolding artificial_of
  no-artificial = refl

  reads : (a : Mark) (v : ℕ) → work_of false a v u ≡ cut_work id (work_of false a v t)
  unfolding with_tableau
  reads a v =
      work-parts false a v u
      ∙ rw (gl.cutoff, symbols-are, gl.head next_id_at (λ e. omega (arith, e)) (λ e. omega (arith, e)) (omega arith), basics-are, objective-is, changes-are, no-artificial) refl
      ∙ sym (ap (cut_work id) (work-parts false a v t))

  -- ---- the tables can be worked on further

  ups : (q s : ℕ) → 1 ≤ q → q < s → s ≤ symbol_count u → get_or u.words (ids_at + q) 0 < get_or u.words (ids_at + s) 0
  ups q s a b d = go (ltb q p) refl (ltb s p) refl
    where
      m : s < k
      m = let l = gl.less in omega (arith, d, l, low, high)

      before : (z : ℕ) → z < p → get_or u.words (ids_at + z) 0 ≡ get_or t.words (ids_at + z) 0
      before z h = gl.head (ids_at + z) (λ e. omega (arith, e)) (λ e. omega (arith, e)) (omega (arith, h))

      go : (x : Bool) → ltb q p ≡ x → (y : Bool) → ltb s p ≡ y → get_or u.words (ids_at + q) 0 < get_or u.words (ids_at + s) 0
      go true e true f = rw (before q (ltb-true q p e), before s (ltb-true s p f)) (so.named.up q s a b (omega (arith, m)))
      go true e false f = rw (before q (ltb-true q p e), gl.ids s (ltb-false s p f) m) (so.named.up q (suc s) a (omega (arith, b)) (omega (arith, m)))
      go false e true f = absurd (omega (arith, ltb-false q p e, ltb-true s p f, b))
      go false e false f = rw (gl.ids q (ltb-false q p e) (omega (arith, b, m)), gl.ids s (ltb-false s p f) m) (so.named.up (suc q) (suc s) (omega arith) (omega (arith, b)) (omega (arith, m)))

  named : Named u.words u.bytes
  named = record {
    long = gl.long ∙ so.named.long;
    wide = gl.wide ∙ so.named.wide;
    few-symbols = let l = narrow in rw gl.less (omega (arith, l));
    few-variables = rw variables-same so.named.few-variables;
    up = ups;
    variables = λ v h.
        let h' : v < variable_count t = rw variables-same at h in
        let l = so.named.variables v h' in
        rw (gl.owns v h', gl.less) (near-live p k (own v) low high (unowned v h') l.0 l.1);
  }

  sound : Sound false u
  sound = record {
    named = named;
    held = rw (lines_same false t u rows_same, gl.size, gl.keys, gl.values) (held-purged (lines_of false t) n p t.keys t.values so.held low in-keys in-vals);
    few = rw rows_same so.few;
    rows = λ i a b.
        let b' : i ≤ r = rw rows_same at b in
        let l = basic-near i a b' in
        rw (gl.rows i a b', gl.less) (near-live p k (at i) low high l.0 l.1 l.2);
    up = λ i q a b d.
        let d' : q ≤ r = rw rows_same at d in
        let x = basic-near i a (omega (arith, b, d')) in
        let y = basic-near q (omega (arith, a, b)) d' in
        rw (gl.rows i a (omega (arith, b, d')), gl.rows q (omega (arith, a, b)) d') (near-lt p (at i) (at q) x.0 y.0 (so.up i q a b d'));
    long = gl.reals-long ∙ so.long;
  }

  inside : Inside t → Inside u
  inside h j l = let l' : j < c.size = rw gl.size at l in rw (gl.keys, gl.less) (purged-inside n p t.keys t.values in-keys in-vals so.held.up k high h j l')

  owners : Owners t → Owners u
  owners o = record {
    up = λ i j b d. rw (gl.words (variable_numbers_at + i) (omega arith), gl.words (variable_numbers_at + j) (omega arith)) (o.up i j b (rw variables-same at d));
    external = λ v h.
        let h' : v < variable_count t = rw variables-same at h in
        let l = so.named.variables v h' in
        rw (gl.owns v h') (kind-near (own v) (unowned v h') l.1 ∙ o.external v h');
    apart = λ i j b d e.
        let d' : j < variable_count t = rw variables-same at d in
        let b' : i < variable_count t = omega (arith, b, d') in
        o.apart i j b d' (near-one p (own i) (own j) (unowned i b') (unowned j d') (sym (gl.owns i b') ∙ e ∙ gl.owns j d'));
    kinds = λ q b d. kind_at q b (rw gl.less at d) (ltb q p) refl;
    changed = λ v h. rw (gl.bytes (changed_at + v) (omega arith)) (o.changed v (rw variables-same at h));
    clear = rw clear-same o.clear;
  }
    where
      kind_at : (q : ℕ) → 1 ≤ q → q ≤ k - 1 → (x : Bool) → ltb q p ≡ x → get_or u.bytes (kinds_at + q) 0 ≤ 3
      kind_at q b d true e = let l = ltb-true q p e in rw (gl.firsts q l) (o.kinds q b (omega (arith, l, high)))
      kind_at q b d false e = rw (gl.kinds q (ltb-false q p e) (omega (arith, d, low, high))) (o.kinds (suc q) (omega arith) (omega (arith, d, low, high)))

  purged : Purged p t u
  purged = record {
    symbols = gl.less;
    fewer = rw rows_same (omega arith);
    before = symbol-before;
    after = symbol-after;
    words = λ q a b d. ((λ h. gl.head q a d (omega (arith, h, low))), gl.words q);
    places = gl.owns;
    changed = gl.bytes;
    olds = λ q a b. gl.reals q (omega (arith, b, low));
    frees = λ q d f i a b e. let b' : i ≤ r = rw rows_same at b in f i a b' (near-one p (at i) q (free i a b') d (sym (gl.rows i a b') ∙ e));
    unowneds = λ q d f v a e. let a' : v < variable_count t = rw variables-same at a in f v a' (near-one p (own v) q (unowned v a') d (sym (gl.owns v a') ∙ e));
  }

  pub close-reads : Closes p t u
  close-reads = record { reads = reads; sound = sound; inside = inside; owners = owners; purged = purged }
