-- What a suggestion can change, written over the lent tables: they read as the room does, with the records that they had.
-- Assumes nothing.
use Prim.Native.Nat.{ℕ, zero, suc, ◌+◌, ◌*◌, ◌-◌, ◌≤◌, ◌<◌}
use Rattle.std.specs.Prelude.{◌≡◌, List, length}
use Rattle.std.proofs.Math.Path.{refl, sym, ap}
use Rattle.std.proofs.Common.{◌∙◌, arith}
use Rattle.std.proofs.Math.Bool.{false}
use Rattle.std.proofs.Math.Dec.{eqb}
use Rattle.std.specs.Float.Ieee.{nan}
use Rattle.std.proofs.Math.ListN.{get_or}
use Rattle.laws.specs.Lists.{tab, tab-ext, get_or-tab, list_of}
use Rattle.layout.specs.Laying.{list_ext, get_d_map}
use Rattle.layout.proofs.Copied.{length-list_of, get_or-list_of}
use Rattle.steps.specs.State.{Variable}
use Rattle.steps.specs.Changes.{with_flag, clear_changed}
use Rattle.keeps.specs.Good.{clear-length}
use Rattle.layout.specs.cells.Names.{row_span}
use Rattle.layout.specs.cells.Cells.{cell_at, row_of, Ascending}
use Rattle.layout.specs.cells.Seek.{first-within}
use Rattle.layout.specs.cells.Reads.{cell-within}
use Rattle.sparse.specs.Places.{next_id_at, symbol_count_at, row_count_at, cell_count_at, variable_count_at, constraint_count_at, edit_count_at, should_clear_at, whole_at, gone_count_at, ids_at, variable_numbers_at, variable_uses_at, constraint_numbers_at, constraint_groups_at, gone_numbers_at, kinds_at, row_places_at, variable_places_at, changed_at, constraint_markers_at, constraint_others_at, term_counts_at, edit_variables_at, edit_markers_at, edit_others_at, terms_at, relations_at, constants_at, old_values_at, objective_at, cutoff_at, constraint_strengths_at, edit_strengths_at, suggestions_at, coefficients_at, constraint_constants_at}
use Rattle.sparse.specs.Sparse.{Sparse, symbol_count, row_count, cell_count, variable_count, constraint_count, edit_count, gone_count, symbol_at, other_at, number_at, variable_of, terms_from, term_of, constraint_of, edit_of, basic_of, symbols_of, basics_of, objective_of, gone_of, read}
use Rattle.sparse.specs.Write.{no_variable, no_symbol}
use Rattle.sparse.specs.Concat.{sum-in, sum-ext}
use Rattle.sparse.specs.Fits.{Lengths}
use Rattle.sparse.specs.Form.{index_at, At, Form}
use Rattle.sparse.specs.Repack.{Held}
use Rattle.stored.specs.Maps.{Apart}
use Rattle.stored.specs.Ended.{Kept}
use Rattle.solver.specs.Begin.{symbols-count, rows-count, variables-count}
use Rattle.lending.specs.sparse_copy.Becomes.{Outside}

-- what a suggestion's steps leave as it was: t is lent, u the room
pub record Stays (t u : Sparse) : Type 0 where
  pub symbols : (read u).tableau.symbols ≡ (read t).tableau.symbols
  pub next : (read u).tableau.next_id ≡ (read t).tableau.next_id
  pub cutoff : (read u).tableau.cutoff ≡ (read t).tableau.cutoff
  pub rows : length (read u).tableau.rows ≡ length (read t).tableau.rows
  pub variables : clear_changed (read u).changes.variables ≡ clear_changed (read t).changes.variables
  pub gone : (read u).changes.gone ≡ (read t).changes.gone

-- z is t with what may have changed in u
pub record Back (t u z : Sparse) : Type 0 where
  pub words : (m : ℕ) → (m ≡ cell_count_at → ⊥) → (m ≡ should_clear_at → ⊥) → (m ≡ whole_at → ⊥) → get_or z.words m 0 ≡ get_or t.words m 0
  pub count : cell_count z ≡ cell_count u
  pub clear : get_or z.words should_clear_at 0 ≡ get_or u.words should_clear_at 0
  pub whole : get_or z.words whole_at 0 ≡ get_or u.words whole_at 0
  pub row_places : (p : ℕ) → 1 ≤ p → p ≤ row_count t → get_or z.bytes (row_places_at + p) 0 ≡ get_or u.bytes (row_places_at + p) 0
  pub changed : (i : ℕ) → i < variable_count t → get_or z.bytes (changed_at + i) 0 ≡ get_or u.bytes (changed_at + i) 0
  pub bytes : (m : ℕ) → Outside (row_places_at + 1) (row_count t) m → Outside changed_at (variable_count t) m → get_or z.bytes m 0 ≡ get_or t.bytes m 0
  pub constants : (p : ℕ) → 1 ≤ p → p ≤ row_count t → get_or z.reals (constants_at + p) nan ≡ get_or u.reals (constants_at + p) nan
  pub objective : (p : ℕ) → 1 ≤ p → p ≤ symbol_count t → get_or z.reals (objective_at + p) nan ≡ get_or u.reals (objective_at + p) nan
  pub reals : (m : ℕ) → Outside (constants_at + 1) (row_count t) m → Outside (objective_at + 1) (symbol_count t) m → get_or z.reals m nan ≡ get_or t.reals m nan
  pub keys : (j : ℕ) → j < cell_count u → get_or z.keys j 0 ≡ get_or u.keys j 0
  pub values : (j : ℕ) → j < cell_count u → get_or z.values j nan ≡ get_or u.values j nan

tab-at : {A : Type 0} (f g : ℕ → A) (i n m j : ℕ) (d : A) → tab f i n ≡ tab g i m → n ≡ m → j < n → f (i + j) ≡ g (i + j)
tab-at f g i n m j d e q h = sym (get_or-tab f i n j d h) ∙ ap (λ (l : List _). get_or l j d) e ∙ get_or-tab g i m j d (omega (arith, h, q))

module _ (t u z : Sparse) (ft : Form t) (fu : Form u) (stays : Stays t u) (back : Back t u z) where
  -- ---- the counts

  symbols-same : symbol_count u ≡ symbol_count t
  symbols-same = sym (symbols-count u) ∙ ap length stays.symbols ∙ symbols-count t

  rows_same : row_count u ≡ row_count t
  rows_same = sym (rows-count u) ∙ stays.rows ∙ rows-count t

  variables-same : variable_count u ≡ variable_count t
  variables-same = sym (variables-count u) ∙ clear-length (read t).changes.variables (read u).changes.variables stays.variables ∙ variables-count t

  count : (m : ℕ) → m < cell_count_at → get_or z.words m 0 ≡ get_or t.words m 0
  count m h = back.words m (λ e. omega (arith, e, h)) (λ e. omega (arith, e, h)) (λ e. omega (arith, e, h))

  past : (m : ℕ) → whole_at < m → get_or z.words m 0 ≡ get_or t.words m 0
  past m h = back.words m (λ e. omega (arith, e, h)) (λ e. omega (arith, e, h)) (λ e. omega (arith, e, h))

  k₁ : symbol_count z ≡ symbol_count t
  k₁ = count symbol_count_at (omega arith)

  k₂ : row_count z ≡ row_count t
  k₂ = count row_count_at (omega arith)

  k₄ : variable_count z ≡ variable_count t
  k₄ = back.words variable_count_at (omega arith) (omega arith) (omega arith)

  k₅ : constraint_count z ≡ constraint_count t
  k₅ = back.words constraint_count_at (omega arith) (omega arith) (omega arith)

  k₆ : edit_count z ≡ edit_count t
  k₆ = back.words edit_count_at (omega arith) (omega arith) (omega arith)

  k₉ : gone_count z ≡ gone_count t
  k₉ = past gone_count_at (omega arith)

  -- ---- bytes and reals that stay

  low : (m : ℕ) → m ≤ row_places_at → get_or z.bytes m 0 ≡ get_or t.bytes m 0
  low m h = back.bytes m (λ a b. omega (arith, a, h)) (λ a b. omega (arith, a, h))

  owner : (i : ℕ) → i < variable_count t → get_or z.bytes (variable_places_at + i) 0 ≡ get_or t.bytes (variable_places_at + i) 0
  owner i h = let r = ft.counts.rows in let v = ft.counts.variables in back.bytes (variable_places_at + i) (λ a b. omega (arith, b, r)) (λ a b. omega (arith, a, h, v))

  high : (m : ℕ) → constraint_markers_at ≤ m → get_or z.bytes m 0 ≡ get_or t.bytes m 0
  high m h = let r = ft.counts.rows in let v = ft.counts.variables in back.bytes m (λ a b. omega (arith, b, r, h)) (λ a b. omega (arith, b, v, h))

  old : (i : ℕ) → i < variable_count t → get_or z.reals (old_values_at + i) nan ≡ get_or t.reals (old_values_at + i) nan
  old i h = let r = ft.counts.rows in let v = ft.counts.variables in back.reals (old_values_at + i) (λ a b. omega (arith, b, r)) (λ a b. omega (arith, a, h, v))

  real : (m : ℕ) → cutoff_at ≤ m → get_or z.reals m nan ≡ get_or t.reals m nan
  real m h = let r = ft.counts.rows in let k = ft.counts.symbols in back.reals m (λ a b. omega (arith, b, r, h)) (λ a b. omega (arith, b, k, h))

  -- ---- symbols

  symbol-z : (p : ℕ) → p ≤ symbol_count t → symbol_at z p ≡ symbol_at t p
  unfolding symbol_at
  symbol-z p h = let k = ft.counts.symbols in rw (past (ids_at + p) (omega arith), low (kinds_at + p) (omega (arith, h, k))) refl

  other-z : (p : ℕ) → p ≤ symbol_count t → other_at z p ≡ other_at t p
  unfolding other_at
  other-z zero h = refl
  other-z (suc p) h = rw (symbol-z (suc p) h) refl

  symbol-u : (p : ℕ) → 1 ≤ p → p ≤ symbol_count u → symbol_at u p ≡ symbol_at t p
  symbol-u p a b =
      let o : 1 + (p - 1) ≡ p = omega (arith, a) in
      rw o at (tab-at (symbol_at u) (symbol_at t) 1 (symbol_count u) (symbol_count t) (p - 1) no_symbol (unfold read symbols_of in stays.symbols) symbols-same (omega (arith, a, b)))

  symbol-is : (p : ℕ) → At u p → symbol_at z p ≡ symbol_at u p
  symbol-is p l = let b = l.1 in symbol-z p (omega (arith, b, symbols-same)) ∙ sym (symbol-u p l.0 b)

  -- ---- variables

  flagless : (i : ℕ) → i < variable_count t → with_flag false (variable_of u i) ≡ with_flag false (variable_of t i)
  flagless i h = sym (at u i (omega (arith, h, variables-same))) ∙ ap (λ (l : List Variable). get_or l i no_variable) stays.variables ∙ at t i h
    where
      at : (s : Sparse) (i : ℕ) → i < variable_count s → get_or (clear_changed (read s).changes.variables) i no_variable ≡ with_flag false (variable_of s i)
      at s i h = unfold read clear_changed in (get_d_map (with_flag false) (list_of (variable_count s) (variable_of s)) i no_variable no_variable (rw (length-list_of (variable_count s) (variable_of s)) h) ∙ ap (with_flag false) (get_or-list_of (variable_count s) (variable_of s) i no_variable h))

  variable-is : (i : ℕ) → i < variable_count t → variable_of z i ≡ variable_of u i
  unfolding with_flag
  variable-is i h =
      let e : with_flag false (variable_of u i) ≡ with_flag false (variable_of t i) = flagless i h in
      by (variable_of z i) (variable_of u i) (number ∙ sym (ap (λ (v : Variable). v.number) e)) (symbol ∙ sym (ap (λ (v : Variable). v.symbol) e)) (value ∙ sym (ap (λ (v : Variable). v.old) e)) (uses ∙ sym (ap (λ (v : Variable). v.uses) e)) flag
    where
      by : (v w : Variable) → v.number ≡ w.number → v.symbol ≡ w.symbol → v.old ≡ w.old → v.uses ≡ w.uses → v.changed ≡ w.changed → v ≡ w
      by v w a b c d e = λ j. record { number = a j; symbol = b j; old = c j; uses = d j; changed = e j }

      number : (variable_of z i).number ≡ (variable_of t i).number
      number = unfold variable_of in past (variable_numbers_at + i) (omega arith)

      symbol : (variable_of z i).symbol ≡ (variable_of t i).symbol
      symbol = unfold variable_of in (ap (symbol_at z) (owner i h) ∙ symbol-z (get_or t.bytes (variable_places_at + i) 0) (ft.owners i h).1)

      value : (variable_of z i).old ≡ (variable_of t i).old
      value = unfold variable_of in old i h

      uses : (variable_of z i).uses ≡ (variable_of t i).uses
      uses = unfold variable_of in past (variable_uses_at + i) (omega arith)

      flag : (variable_of z i).changed ≡ (variable_of u i).changed
      flag = unfold variable_of in ap (λ (x : ℕ). eqb x 1) (back.changed i h)

  -- ---- rows

  cell-is : (x : ℕ) → cell_at z.keys z.values (cell_count u) x ≡ cell_at u.keys u.values (cell_count u) x
  unfolding cell_at
  cell-is x = cell-within z.keys u.keys z.values u.values x 0 0 (cell_count u) (cell_count u) (omega arith) (omega arith) (omega arith) (λ j a b. back.keys j b) (λ j a b. back.values j b) (λ j a b. absurd (omega (arith, b))) λ j a b. absurd (omega (arith, a, b))

  row_is : (i : ℕ) → row_of z.keys z.values (cell_count u) (symbol_count u) i ≡ row_of u.keys u.values (cell_count u) (symbol_count u) i
  unfolding row_of
  row_is i = tab-ext _ _ 1 (symbol_count u) λ p a b. cell-is (i * row_span + p)

  basic-is : (i : ℕ) → 1 ≤ i → i ≤ row_count u → basic_of z i ≡ basic_of u i
  unfolding basic_of
  basic-is i a b =
      let c : i ≤ row_count t = omega (arith, b, rows_same) in
      rw (back.row_places i a c, symbol-is (get_or u.bytes (row_places_at + i) 0) (fu.rows i a b), back.constants i a c, back.count, k₁ ∙ sym symbols-same, row_is i) refl

  -- ---- the state

  tableau-is : (read z).tableau ≡ (read u).tableau
  unfolding read symbols_of basics_of objective_of
  tableau-is =
      let s : symbol_count z ≡ symbol_count u = k₁ ∙ sym symbols-same in
      let r : row_count z ≡ row_count u = k₂ ∙ sym rows_same in
      let n : get_or z.words next_id_at 0 ≡ get_or u.words next_id_at 0 = count next_id_at (omega arith) ∙ sym stays.next in
      let c : get_or z.reals cutoff_at nan ≡ get_or u.reals cutoff_at nan = real cutoff_at (omega arith) ∙ sym stays.cutoff in
      let xs : tab (symbol_at z) 1 (symbol_count u) ≡ tab (symbol_at u) 1 (symbol_count u) = tab-ext _ _ 1 (symbol_count u) λ p a b. symbol-is p (a, omega (arith, b)) in
      let bs : tab (basic_of z) 1 (row_count u) ≡ tab (basic_of u) 1 (row_count u) = tab-ext _ _ 1 (row_count u) λ p a b. basic-is p a (omega (arith, b)) in
      let os : tab (λ p. get_or z.reals (objective_at + p) nan) 1 (symbol_count u) ≡ tab (λ p. get_or u.reals (objective_at + p) nan) 1 (symbol_count u) = tab-ext _ _ 1 (symbol_count u) λ p a b. back.objective p a (omega (arith, b, symbols-same)) in
      rw (n, c, s, r, xs, bs, os) refl

  gone-is : gone_of z ≡ gone_of u
  gone-is = same ∙ (unfold read in sym stays.gone)
    where
      same : gone_of z ≡ gone_of t
      same = unfold gone_of in rw k₉ (list_ext _ _ _ λ j l. past (gone_numbers_at + j) (omega arith))

  changes-is : (read z).changes ≡ (read u).changes
  unfolding read
  changes-is =
      let v : variable_count z ≡ variable_count u = k₄ ∙ sym variables-same in
      let vs : list_of (variable_count u) (variable_of z) ≡ list_of (variable_count u) (variable_of u) = list_ext _ _ _ λ i h. variable-is i (omega (arith, h, variables-same)) in
      rw (v, vs, gone-is, back.clear) refl

  -- ---- the records

  number_is : (p : ℕ) → number_at z p ≡ number_at t p
  unfolding number_at
  number_is p =
      rw k₄ (first-within (λ v. eqb p (get_or z.bytes (variable_places_at + v) 0)) (λ v. eqb p (get_or t.bytes (variable_places_at + v) 0)) (λ v. get_or z.words (variable_numbers_at + v) 0) (λ v. get_or t.words (variable_numbers_at + v) 0) 0 0 0 (variable_count t) (variable_count t) (omega arith) (omega arith) (omega arith)
      (λ j a b. ap (eqb p) (owner j b)) (λ j a b. past (variable_numbers_at + j) (omega arith)) (λ j a b. absurd (omega (arith, b))) λ j a b. absurd (omega (arith, a, b)))

  index_is : (p : ℕ) → index_at z p ≡ index_at t p
  unfolding index_at
  index_is p =
      rw k₄ (first-within (λ v. eqb p (get_or z.bytes (variable_places_at + v) 0)) (λ v. eqb p (get_or t.bytes (variable_places_at + v) 0)) (λ v. v) (λ v. v) (variable_count t) 0 0 (variable_count t) (variable_count t) (omega arith) (omega arith) (omega arith)
      (λ j a b. ap (eqb p) (owner j b)) (λ j a b. refl) (λ j a b. absurd (omega (arith, b))) λ j a b. absurd (omega (arith, a, b)))

  terms-from : (i : ℕ) → terms_from z i ≡ terms_from t i
  unfolding terms_from
  terms-from i = sum-in _ i ∙ sum-ext _ _ 0 i (λ j h. high (term_counts_at + j) (omega arith)) ∙ sym (sum-in _ i)

  term_is : (a j : ℕ) → term_of z a j ≡ term_of t a j
  unfolding term_of
  term_is a j = rw (high (terms_at + (a + j)) (omega arith), number_is (get_or t.bytes (terms_at + (a + j)) 0), real (coefficients_at + (a + j)) (omega arith)) refl

  constraint-is : (i : ℕ) → i < constraint_count t → constraint_of z i ≡ constraint_of t i
  unfolding constraint_of
  constraint-is i h =
      let ts : list_of (get_or t.bytes (term_counts_at + i) 0) (term_of z (terms_from t i)) ≡ list_of (get_or t.bytes (term_counts_at + i) 0) (term_of t (terms_from t i)) = list_ext _ _ _ λ j k. term_is (terms_from t i) j in
      rw (past (constraint_numbers_at + i) (omega arith), past (constraint_groups_at + i) (omega arith), high (relations_at + i) (omega arith), real (constraint_strengths_at + i) (omega arith), real (constraint_constants_at + i) (omega arith), high (term_counts_at + i) (omega arith), terms-from i, ts, high (constraint_markers_at + i) (omega arith), symbol-z (get_or t.bytes (constraint_markers_at + i) 0) (ft.markers i h).1, high (constraint_others_at + i) (omega arith), other-z (get_or t.bytes (constraint_others_at + i) 0) (ft.others i h)) refl

  pub edit-is : (i : ℕ) → i < edit_count t → edit_of z i ≡ edit_of t i
  unfolding edit_of
  edit-is i h =
      rw (high (edit_variables_at + i) (omega arith), number_is (get_or t.bytes (edit_variables_at + i) 0), real (edit_strengths_at + i) (omega arith), high (edit_markers_at + i) (omega arith), symbol-z (get_or t.bytes (edit_markers_at + i) 0) (ft.pluses i h).1, high (edit_others_at + i) (omega arith), other-z (get_or t.bytes (edit_others_at + i) 0) (ft.minuses i h), real (suggestions_at + i) (omega arith)) refl

  constraints-are : (read z).constraints ≡ (read t).constraints
  unfolding read
  constraints-are = rw k₅ (list_ext _ _ _ constraint-is)

  edits-are : (read z).edits ≡ (read t).edits
  unfolding read
  edits-are = rw k₆ (list_ext _ _ _ edit-is)

  -- ---- the form

  terms-all : terms_from z (constraint_count z) ≡ terms_from t (constraint_count t)
  terms-all = rw k₅ (terms-from (constraint_count t))

  at-z : (p : ℕ) → At t p → At z p
  at-z p l = (l.0, rw k₁ l.1)

  held : Held z.keys z.values (cell_count u) (symbol_count u) (row_count u)
  unfolding Ascending
  held =
      let c = fu.cells in
      record {
        up = λ a b h k. rw (back.keys a (omega (arith, h, k)), back.keys b k) (c.up a b h k);
        rows = λ j h. rw (back.keys j h) (c.rows j h);
        places = λ j h. rw (back.keys j h) (c.places j h);
        present = λ j h. rw (back.values j h) (c.present j h);
      }

  form-is : Form z
  form-is =
      let c = ft.counts in
      record {
        counts =
            record {
              symbols = rw k₁ c.symbols;
              rows = rw k₂ c.rows;
              cells = rw back.count fu.counts.cells;
              variables = rw k₄ c.variables;
              constraints = rw k₅ c.constraints;
              edits = rw k₆ c.edits;
              terms = rw terms-all c.terms;
              gone = rw k₉ c.gone;
            };
        clear = rw back.clear fu.clear;
        whole = rw back.whole fu.whole;
        ids = λ i j a b d. rw (past (ids_at + i) (omega arith), past (ids_at + j) (omega arith)) (ft.ids i j a b (omega (arith, d, k₁)));
        kinds = λ p a b. let s = c.symbols in rw (low (kinds_at + p) (omega (arith, b, k₁, s))) (ft.kinds p a (omega (arith, b, k₁)));
        rows = λ i a b. let l = fu.rows i a (omega (arith, b, k₂, rows_same)) in rw (back.row_places i a (omega (arith, b, k₂)), k₁, ← symbols-same) l;
        cells = rw (back.count, k₁, ← symbols-same, k₂, ← rows_same) held;
        numbers = λ i j a b. rw (past (variable_numbers_at + i) (omega arith), past (variable_numbers_at + j) (omega arith)) (ft.numbers i j a (omega (arith, b, k₄)));
        owners = λ i a. rw (owner i (omega (arith, a, k₄))) (at-z _ (ft.owners i (omega (arith, a, k₄))));
        changed = λ i a. rw (back.changed i (omega (arith, a, k₄))) (fu.changed i (omega (arith, a, k₄, variables-same)));
        markers = λ i a. rw (high (constraint_markers_at + i) (omega arith)) (at-z _ (ft.markers i (omega (arith, a, k₅))));
        others = λ i a. rw (high (constraint_others_at + i) (omega arith), k₁) (ft.others i (omega (arith, a, k₅)));
        relations = λ i a. rw (high (relations_at + i) (omega arith)) (ft.relations i (omega (arith, a, k₅)));
        edited = λ i a. rw (high (edit_variables_at + i) (omega arith), index_is (get_or t.bytes (edit_variables_at + i) 0), k₄) (ft.edited i (omega (arith, a, k₆)));
        pluses = λ i a. rw (high (edit_markers_at + i) (omega arith)) (at-z _ (ft.pluses i (omega (arith, a, k₆))));
        minuses = λ i a. rw (high (edit_others_at + i) (omega arith), k₁) (ft.minuses i (omega (arith, a, k₆)));
        named = λ j a. rw (high (terms_at + j) (omega arith), index_is (get_or t.bytes (terms_at + j) 0), k₄) (ft.named j (omega (arith, a, terms-all)));
      }

  pub back-kept : Apart t → Lengths z → Kept u z (read t).constraints (read t).edits (terms_from z (constraint_count z))
  back-kept apart len =
      record {
        constraints = constraints-are;
        edits = edits-are;
        tableau = tableau-is;
        changes = changes-is;
        whole = back.whole;
        form = form-is;
        apart = λ i j a b e. apart i j a (omega (arith, b, k₄)) (sym (owner i (omega (arith, a, b, k₄))) ∙ e ∙ owner j (omega (arith, b, k₄)));
        terms = refl;
        lengths = len;
      }
