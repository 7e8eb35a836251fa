-- Tables that differ in their records alone: their symbols, rows, cells and variables read the same.
-- Assumes nothing.
use Prim.Native.Nat.{ℕ, zero, suc, ◌+◌, ◌≤◌, ◌<◌}
use Rattle.std.specs.Prelude.{◌≡◌}
use Rattle.std.proofs.Math.Path.{refl, ap}
use Rattle.std.proofs.Common.{sym, ◌∙◌, arith}
use Rattle.std.proofs.Math.Dec.{eqb}
use Rattle.std.specs.Float.{nan}
use Rattle.std.proofs.Math.ListN.{get_or}
use borrow.Author.Tests.{eq-eqb, ne_eqb}
use Rattle.laws.specs.Lists.{tab, tab-ext, list_of}
use Rattle.layout.specs.Laying.{list_ext}
use Rattle.layout.specs.cells.Names.{last_place, cell_room}
use Rattle.layout.specs.cells.Seek.{first-within, first-at}
use Rattle.sparse.specs.Places.{most_rows, most_variables, most_gone, next_id_at, symbol_count_at, row_count_at, cell_count_at, variable_count_at, constraint_count_at, edit_count_at, should_clear_at, whole_at, gone_count_at, ids_at, variable_numbers_at, variable_uses_at, constraint_numbers_at, gone_numbers_at, kinds_at, row_places_at, variable_places_at, changed_at, constraint_markers_at, constants_at, old_values_at, objective_at, cutoff_at, constraint_strengths_at}
use Rattle.sparse.specs.Sparse.{Sparse, symbol_count, row_count, cell_count, variable_count, gone_count, symbol_at, other_at, number_at, variable_of, basic_of, symbols_of, basics_of, objective_of, gone_of, read}
use Rattle.sparse.specs.Repack.{Held}
use Rattle.sparse.specs.Form.{index_at, At, Form}
use Rattle.stored.specs.Maps.{Apart}

pub record Beside (w u : Sparse) : Type 0 where
  pub words : (q : ℕ) → q < constraint_numbers_at → (q ≡ constraint_count_at → ⊥) → (q ≡ edit_count_at → ⊥) → get_or u.words q 0 ≡ get_or w.words q 0
  pub gone : (q : ℕ) → gone_numbers_at ≤ q → get_or u.words q 0 ≡ get_or w.words q 0
  pub bytes : (q : ℕ) → q < constraint_markers_at → get_or u.bytes q 0 ≡ get_or w.bytes q 0
  pub reals : (q : ℕ) → q < constraint_strengths_at → get_or u.reals q nan ≡ get_or w.reals q nan
  pub keys : u.keys ≡ w.keys
  pub values : u.values ≡ w.values

pub beside-join : (w v u : Sparse) → Beside w v → Beside v u → Beside w u
beside-join w v u a b =
    record {
      words = λ q h x y. b.words q h x y ∙ a.words q h x y;
      gone = λ q h. b.gone q h ∙ a.gone q h;
      bytes = λ q h. b.bytes q h ∙ a.bytes q h;
      reals = λ q h. b.reals q h ∙ a.reals q h;
      keys = b.keys ∙ a.keys;
      values = b.values ∙ a.values;
    }

-- the form of all but the records; each variable has a symbol of its own
pub record Own (w : Sparse) : Type 0 where
  pub symbols : symbol_count w ≤ last_place
  pub rows : row_count w ≤ most_rows
  pub few-cells : cell_count w ≤ cell_room
  pub variables : variable_count w ≤ most_variables
  pub gone : gone_count w ≤ most_gone
  pub clear : get_or w.words should_clear_at 0 ≤ 1
  pub whole : get_or w.words whole_at 0 ≤ 1
  pub ids : (i j : ℕ) → 1 ≤ i → i < j → j ≤ symbol_count w → get_or w.words (ids_at + i) 0 < get_or w.words (ids_at + j) 0
  pub kinds : (p : ℕ) → 1 ≤ p → p ≤ symbol_count w → get_or w.bytes (kinds_at + p) 0 ≤ 3
  pub basics : (i : ℕ) → 1 ≤ i → i ≤ row_count w → At w (get_or w.bytes (row_places_at + i) 0)
  pub cells : Held w.keys w.values (cell_count w) (symbol_count w) (row_count w)
  pub numbers : (i j : ℕ) → i < j → j < variable_count w → get_or w.words (variable_numbers_at + i) 0 < get_or w.words (variable_numbers_at + j) 0
  pub owners : (i : ℕ) → i < variable_count w → At w (get_or w.bytes (variable_places_at + i) 0)
  pub changed : (i : ℕ) → i < variable_count w → get_or w.bytes (changed_at + i) 0 ≤ 1
  pub apart : Apart w

pub own : (w : Sparse) → Form w → Apart w → Own w
own w f a =
    record {
      symbols = f.counts.symbols;
      rows = f.counts.rows;
      few-cells = f.counts.cells;
      variables = f.counts.variables;
      gone = f.counts.gone;
      clear = f.clear;
      whole = f.whole;
      ids = f.ids;
      kinds = f.kinds;
      basics = f.rows;
      cells = f.cells;
      numbers = f.numbers;
      owners = f.owners;
      changed = f.changed;
      apart = a;
    }

-- ---- a variable by the place of its symbol

module _ (w : Sparse) (o : Own w) (v : ℕ) (h : v < variable_count w) where
  abbrev p : ℕ
  p = get_or w.bytes (variable_places_at + v) 0

  pub owner-number : number_at w p ≡ get_or w.words (variable_numbers_at + v) 0
  unfolding number_at
  owner-number =
      first-at (λ j. eqb p (get_or w.bytes (variable_places_at + j) 0)) (λ j. get_or w.words (variable_numbers_at + j) 0) 0 0 (variable_count w) v (omega arith) h (eq-eqb p p refl)
      (λ j a b. ne_eqb p (get_or w.bytes (variable_places_at + j) 0) (λ e. o.apart j v b h (sym e)))

  pub owner-index : index_at w p ≡ v
  unfolding index_at
  owner-index =
      first-at (λ j. eqb p (get_or w.bytes (variable_places_at + j) 0)) (λ j. j) (variable_count w) 0 (variable_count w) v (omega arith) h (eq-eqb p p refl)
      (λ j a b. ne_eqb p (get_or w.bytes (variable_places_at + j) 0) (λ e. o.apart j v b h (sym e)))

-- ---- what reads the same

module _ (w u : Sparse) (o : Own w) (b : Beside w u) where
  word : (q : ℕ) → q < constraint_numbers_at → edit_count_at < q → get_or u.words q 0 ≡ get_or w.words q 0
  word q h l = b.words q h (λ e. omega (arith, e, l)) (λ e. omega (arith, e, l))

  few : (q : ℕ) → q < constraint_count_at → get_or u.words q 0 ≡ get_or w.words q 0
  few q h = b.words q (omega (arith, h)) (λ e. omega (arith, e, h)) (λ e. omega (arith, e, h))

  pub symbols-beside : symbol_count u ≡ symbol_count w
  symbols-beside = few symbol_count_at (omega arith)

  pub rows-beside : row_count u ≡ row_count w
  rows-beside = few row_count_at (omega arith)

  pub cells-beside : cell_count u ≡ cell_count w
  cells-beside = few cell_count_at (omega arith)

  pub variables-beside : variable_count u ≡ variable_count w
  variables-beside = few variable_count_at (omega arith)

  id-beside : (p : ℕ) → p ≤ symbol_count w → get_or u.words (ids_at + p) 0 ≡ get_or w.words (ids_at + p) 0
  id-beside p l = let k = o.symbols in word (ids_at + p) (omega (arith, l, k)) (omega arith)

  kind-beside : (p : ℕ) → p ≤ symbol_count w → get_or u.bytes (kinds_at + p) 0 ≡ get_or w.bytes (kinds_at + p) 0
  kind-beside p l = let k = o.symbols in b.bytes (kinds_at + p) (omega (arith, l, k))

  pub number-at : (v : ℕ) → v < variable_count w → get_or u.words (variable_numbers_at + v) 0 ≡ get_or w.words (variable_numbers_at + v) 0
  number-at v l = let k = o.variables in word (variable_numbers_at + v) (omega (arith, l, k)) (omega arith)

  owner_at : (v : ℕ) → v < variable_count w → get_or u.bytes (variable_places_at + v) 0 ≡ get_or w.bytes (variable_places_at + v) 0
  owner_at v l = let k = o.variables in b.bytes (variable_places_at + v) (omega (arith, l, k))

  changed-at : (v : ℕ) → v < variable_count w → get_or u.bytes (changed_at + v) 0 ≡ get_or w.bytes (changed_at + v) 0
  changed-at v l = let k = o.variables in b.bytes (changed_at + v) (omega (arith, l, k))

  row_at : (i : ℕ) → i ≤ row_count w → get_or u.bytes (row_places_at + i) 0 ≡ get_or w.bytes (row_places_at + i) 0
  row_at i l = let k = o.rows in b.bytes (row_places_at + i) (omega (arith, l, k))

  pub symbol-beside : (p : ℕ) → p ≤ symbol_count w → symbol_at u p ≡ symbol_at w p
  unfolding symbol_at
  symbol-beside p l = rw (id-beside p l, kind-beside p l) refl

  pub other-beside : (p : ℕ) → p ≤ symbol_count w → other_at u p ≡ other_at w p
  unfolding other_at
  other-beside zero l = refl
  other-beside (suc p) l = rw (symbol-beside (suc p) l) refl

  pub number-beside : (p : ℕ) → number_at u p ≡ number_at w p
  unfolding number_at
  number-beside p =
      rw variables-beside (first-within (λ v. eqb p (get_or u.bytes (variable_places_at + v) 0)) (λ v. eqb p (get_or w.bytes (variable_places_at + v) 0)) (λ v. get_or u.words (variable_numbers_at + v) 0) (λ v. get_or w.words (variable_numbers_at + v) 0) 0 0 0 (variable_count w) (variable_count w) (omega arith) (omega arith) (omega arith)
      (λ j a c. ap (eqb p) (owner_at j c)) (λ j a c. number-at j c) (λ j a c. absurd (omega (arith, c))) λ j a c. absurd (omega (arith, a, c)))

  pub index-beside : (p : ℕ) → index_at u p ≡ index_at w p
  unfolding index_at
  index-beside p =
      rw variables-beside (first-within (λ v. eqb p (get_or u.bytes (variable_places_at + v) 0)) (λ v. eqb p (get_or w.bytes (variable_places_at + v) 0)) (λ v. v) (λ v. v) (variable_count w) 0 0 (variable_count w) (variable_count w) (omega arith) (omega arith) (omega arith)
      (λ j a c. ap (eqb p) (owner_at j c)) (λ j a c. refl) (λ j a c. absurd (omega (arith, c))) λ j a c. absurd (omega (arith, a, c)))

  basic-beside : (i : ℕ) → 1 ≤ i → i ≤ row_count w → basic_of u i ≡ basic_of w i
  unfolding basic_of
  basic-beside i a c =
      let k = o.rows in
      rw (row_at i c, symbol-beside (get_or w.bytes (row_places_at + i) 0) (o.basics i a c).1, b.reals (constants_at + i) (omega (arith, c, k)), b.keys, b.values, cells-beside, symbols-beside) refl

  variable-beside : (v : ℕ) → v < variable_count w → variable_of u v ≡ variable_of w v
  unfolding variable_of
  variable-beside v l =
      let k = o.variables in
      rw (number-at v l, owner_at v l, symbol-beside (get_or w.bytes (variable_places_at + v) 0) (o.owners v l).1, b.reals (old_values_at + v) (omega (arith, l, k)), word (variable_uses_at + v) (omega (arith, l, k)) (omega arith), changed-at v l) refl

  pub tableau-beside : (read u).tableau ≡ (read w).tableau
  unfolding read symbols_of basics_of objective_of
  tableau-beside =
      let n = few next_id_at (omega arith) in
      let s = symbols-beside in
      let r = rows-beside in
      let k = o.symbols in
      let xs : tab (symbol_at u) 1 (symbol_count w) ≡ tab (symbol_at w) 1 (symbol_count w) = tab-ext _ _ 1 (symbol_count w) λ p a c. symbol-beside p (omega (arith, c)) in
      let bs : tab (basic_of u) 1 (row_count w) ≡ tab (basic_of w) 1 (row_count w) = tab-ext _ _ 1 (row_count w) λ p a c. basic-beside p a (omega (arith, c)) in
      let os : tab (λ p. get_or u.reals (objective_at + p) nan) 1 (symbol_count w) ≡ tab (λ p. get_or w.reals (objective_at + p) nan) 1 (symbol_count w) = tab-ext _ _ 1 (symbol_count w) λ p a c. b.reals (objective_at + p) (omega (arith, c, k)) in
      rw (b.reals cutoff_at (omega arith), n, s, r, xs, bs, os) refl

  pub gone-count-beside : gone_count u ≡ gone_count w
  gone-count-beside = word gone_count_at (omega arith) (omega arith)

  pub gone-beside : gone_of u ≡ gone_of w
  unfolding gone_of
  gone-beside = rw gone-count-beside (list_ext _ _ _ λ j l. b.gone (gone_numbers_at + j) (omega arith))

  pub changes-beside : (read u).changes ≡ (read w).changes
  unfolding read
  changes-beside =
      let v = variables-beside in
      let f = word should_clear_at (omega arith) (omega arith) in
      let vs : list_of (variable_count w) (variable_of u) ≡ list_of (variable_count w) (variable_of w) = list_ext _ _ _ variable-beside in
      rw (v, f, vs, gone-beside) refl

  pub whole-beside : get_or u.words whole_at 0 ≡ get_or w.words whole_at 0
  whole-beside = word whole_at (omega arith) (omega arith)

  at-beside : (p : ℕ) → At w p → At u p
  at-beside p l = (l.0, rw symbols-beside l.1)

  pub own-beside : Own u
  own-beside =
      let s = symbols-beside in
      let r = rows-beside in
      let v = variables-beside in
      record {
        symbols = rw s o.symbols;
        rows = rw r o.rows;
        few-cells = rw cells-beside o.few-cells;
        variables = rw v o.variables;
        gone = rw gone-count-beside o.gone;
        clear = rw (word should_clear_at (omega arith) (omega arith)) o.clear;
        whole = rw whole-beside o.whole;
        ids = λ i j a c d. rw (id-beside i (omega (arith, c, d, s)), id-beside j (omega (arith, d, s))) (o.ids i j a c (omega (arith, d, s)));
        kinds = λ p a c. rw (kind-beside p (omega (arith, c, s))) (o.kinds p a (omega (arith, c, s)));
        basics = λ i a c. rw (row_at i (omega (arith, c, r))) (at-beside _ (o.basics i a (omega (arith, c, r))));
        cells = rw (b.keys, b.values, cells-beside, s, r) o.cells;
        numbers = λ i j a c. rw (number-at i (omega (arith, a, c, v)), number-at j (omega (arith, c, v))) (o.numbers i j a (omega (arith, c, v)));
        owners = λ i a. rw (owner_at i (omega (arith, a, v))) (at-beside _ (o.owners i (omega (arith, a, v))));
        changed = λ i a. rw (changed-at i (omega (arith, a, v))) (o.changed i (omega (arith, a, v)));
        apart = λ i j a c e. o.apart i j a (omega (arith, c, v)) (sym (owner_at i (omega (arith, a, c, v))) ∙ e ∙ owner_at j (omega (arith, c, v)));
      }
