-- Reading what was written gives the state back, of a state that fits.
-- Assumes nothing.
use Prim.Native.Nat.{ℕ, ◌+◌, ◌≤◌, ◌<◌}
use Rattle.std.specs.Prelude.{◌≡◌}
use Rattle.std.proofs.Math.Path.{refl, ap}
use Rattle.std.proofs.Common.{◌∙◌, zero-add, arith}
use mathlib.Core.List.{List, [], ◌∷◌, map}
use Rattle.std.proofs.Math.ListN.{length, get_or, length-map}
use Rattle.std.specs.Float.Ieee.{Float}
use Rattle.steps.specs.State.{Basic, Variable, Constraint, Edit, State}
use Rattle.steps.specs.Readable.{code}
use Rattle.laws.specs.Lists.{list_of-is, laid, laid_in, laid-before, laid-after, length-laid}
use Rattle.layout.specs.Laying.{get_d_map}
use Rattle.layout.specs.Layout.{Tables, head_size, items_size, rows_size, symbols_at, rows_at, heading_end, record_counts_at, constraints_at, edits_at, symbol_of, cells_of, symbols_of, basics_of, variables_of, constraints_of, edits_of, read, over, variable_names, variable_reals, constraint_names, constraint_reals, edit_names, edit_reals, basic_row, basic_code, heading, record_counts, write_head, write_names, write_reals, write_rows, write}
use Rattle.layout.specs.Rooms.{Lengths, Wide, Fits}
use Rattle.layout.proofs.Back.{symbol-back, bit-back, basic-back, objective-back, variable-back, constraint-back, edit-back}
use Rattle.layout.specs.ReadBack.{no_symbol, no_basic, no_variable, no_constraint, no_edit}

-- ---- the head

module _ (s : State) (h : List ℕ) (l : length h ≡ head_size) where
  abbrev first : ℕ → ℕ → ℕ
  first x y = x

  pub count-back : (i : ℕ) → i < heading_end → get_or (write_head s h) i 0 ≡ get_or (heading s) i 0
  unfolding write_head over heading
  count-back i k =
      laid-before first rows_at _ _ i 0 (omega arith)
      ∙ laid-before first symbols_at _ _ i 0 (omega arith)
      ∙ laid-before first record_counts_at _ _ i 0 (omega arith)
      ∙ (rw (zero-add i) at (laid_in first 0 (heading s) h i 0 0 k (omega arith)))

  pub record-back : (i : ℕ) → i < 5 → get_or (write_head s h) (record_counts_at + i) 0 ≡ get_or (record_counts s) i 0
  unfolding write_head over record_counts
  record-back i k =
      laid-before first rows_at _ _ (record_counts_at + i) 0 (omega arith)
      ∙ laid-before first symbols_at _ _ (record_counts_at + i) 0 (omega arith)
      ∙ laid_in first record_counts_at (record_counts s) (laid first 0 (heading s) h) i 0 0 k (omega (arith, length-laid first 0 (heading s) h))

  abbrev counted : List ℕ
  counted = laid first record_counts_at (record_counts s) (laid first 0 (heading s) h)

  counted-long : length counted ≡ head_size
  counted-long = length-laid first record_counts_at (record_counts s) (laid first 0 (heading s) h) ∙ length-laid first 0 (heading s) h ∙ l

  symbol-written : (j : ℕ) → j < length s.tableau.symbols → length s.tableau.symbols ≤ 129 → get_or (write_head s h) (symbols_at + j) 0 ≡ code (get_or s.tableau.symbols j no_symbol)
  unfolding write_head over
  symbol-written j k r =
      let m : List ℕ = map code s.tableau.symbols in
      let n : length m ≡ length s.tableau.symbols = length-map s.tableau.symbols code in
      laid-before first rows_at _ _ (symbols_at + j) 0 (omega arith)
      ∙ laid_in first symbols_at m counted j 0 0 (omega arith) (omega (arith, counted-long))
      ∙ get_d_map code s.tableau.symbols j no_symbol 0 k

  basic-written : (j : ℕ) → j < length s.tableau.rows → length s.tableau.rows ≤ 50 → get_or (write_head s h) (rows_at + j) 0 ≡ code (get_or s.tableau.rows j no_basic).symbol
  unfolding write_head over basic_code
  basic-written j k r =
      let b : List ℕ = laid first symbols_at (map code s.tableau.symbols) counted in
      let m : List ℕ = map basic_code s.tableau.rows in
      let n : length m ≡ length s.tableau.rows = length-map s.tableau.rows basic_code in
      let o : length b ≡ head_size = length-laid first symbols_at (map code s.tableau.symbols) counted ∙ counted-long in
      laid_in first rows_at m b j 0 0 (omega arith) (omega arith) ∙ get_d_map basic_code s.tableau.rows j no_basic 0 k

-- ---- the rows

module _ (s : State) (w : List (List Float)) (l : length w ≡ rows_size) where
  row_written : (j : ℕ) → j < length s.tableau.rows → length s.tableau.rows ≤ 50 → get_or (write_rows s w) (1 + j) [] ≡ over 0 (basic_row (get_or s.tableau.rows j no_basic)) (get_or w (1 + j) [])
  unfolding write_rows
  row_written j k r =
      let f : Basic → List Float → List Float = λ c row. over 0 (basic_row c) row in
      let g : List Float → List Float → List Float = λ cs row. over 1 cs row in
      laid_in f 1 s.tableau.rows (laid g 0 (s.tableau.objective ∷ []) w) j [] no_basic k (omega (arith, length-laid g 0 (s.tableau.objective ∷ []) w))
      ∙ ap (λ (row : List Float). over 0 (basic_row (get_or s.tableau.rows j no_basic)) row) (laid-after g 0 (s.tableau.objective ∷ []) w (1 + j) [] (omega arith))

  objective-written : get_or (write_rows s w) 0 [] ≡ over 1 s.tableau.objective (get_or w 0 [])
  unfolding write_rows
  objective-written =
      let f : Basic → List Float → List Float = λ c row. over 0 (basic_row c) row in
      let g : List Float → List Float → List Float = λ cs row. over 1 cs row in
      laid-before f 1 s.tableau.rows _ 0 [] (omega arith) ∙ laid_in g 0 (s.tableau.objective ∷ []) w 0 [] [] (omega arith) (omega arith)

-- ---- the items: f writes a variable's row, g a constraint's, k an edit's

module _ {A : Type 0} (f : Variable → List A → List A) (g : Constraint → List A → List A) (k : Edit → List A → List A) (s : State) (m : List (List A)) (l : length m ≡ items_size) (fits : Fits s) where
  abbrev items : List (List A)
  items = laid k edits_at s.edits (laid g constraints_at s.constraints (laid f 0 s.changes.variables m))

  pub variable-written : (j : ℕ) → j < length s.changes.variables → get_or items j [] ≡ f (get_or s.changes.variables j no_variable) (get_or m j [])
  variable-written j b =
      let r = fits.variables in
      laid-before k edits_at _ _ j [] (omega arith)
      ∙ laid-before g constraints_at _ _ j [] (omega arith)
      ∙ (rw (zero-add j) at (laid_in f 0 s.changes.variables m j [] no_variable b (omega arith)))

  pub constraint-written : (j : ℕ) → j < length s.constraints → get_or items (constraints_at + j) [] ≡ g (get_or s.constraints j no_constraint) (get_or m (constraints_at + j) [])
  constraint-written j b =
      let r = fits.constraints in
      let q = fits.variables in
      laid-before k edits_at _ _ (constraints_at + j) [] (omega arith)
      ∙ laid_in g constraints_at s.constraints (laid f 0 s.changes.variables m) j [] no_constraint b (omega (arith, length-laid f 0 s.changes.variables m))
      ∙ ap (λ (row : List A). g (get_or s.constraints j no_constraint) row) (laid-after f 0 s.changes.variables m (constraints_at + j) [] (omega arith))

  edit-written : (j : ℕ) → j < length s.edits → get_or items (edits_at + j) [] ≡ k (get_or s.edits j no_edit) (get_or m (edits_at + j) [])
  edit-written j b =
      let r = fits.constraints in
      let q = fits.variables in
      let p = fits.edits in
      let o = length-laid f 0 s.changes.variables m in
      laid_in k edits_at s.edits (laid g constraints_at s.constraints (laid f 0 s.changes.variables m)) j [] no_edit b (omega (arith, length-laid g constraints_at s.constraints (laid f 0 s.changes.variables m)))
      ∙ ap (λ (row : List A). k (get_or s.edits j no_edit) row) (laid-after g constraints_at s.constraints _ (edits_at + j) [] (omega arith) ∙ laid-after f 0 s.changes.variables m (edits_at + j) [] (omega arith))

-- ---- all together

module _ (s : State) (t : Tables) (fits : Fits s) (l : Lengths t) (w : Wide t) where
  symbols-back : symbols_of (write s t) ≡ s.tableau.symbols
  unfolding symbols_of write heading
  symbols-back =
      rw (count-back s t.head l.0 1 (omega arith)) (list_of-is _ s.tableau.symbols no_symbol λ j k.
      ap symbol_of (symbol-written s t.head l.0 j k fits.symbols) ∙ symbol-back (get_or s.tableau.symbols j no_symbol))

  basics-back : basics_of (write s t) ≡ s.tableau.rows
  unfolding basics_of write heading
  basics-back =
      rw (count-back s t.head l.0 1 (omega arith), count-back s t.head l.0 2 (omega arith)) (list_of-is _ s.tableau.rows no_basic λ j k.
      let b : Basic = get_or s.tableau.rows j no_basic in
      let r = fits.rows in
      let m = fits.symbols in
      let e : length b.row.cells ≡ length s.tableau.symbols = fits.cells no_basic j k in
      rw (basic-written s t.head l.0 j k r, row_written s t.rows l.3 j k r, ← e) (basic-back b (get_or t.rows (1 + j) []) (w.2 (1 + j) (omega arith)) (omega arith)))

  cost-back : cells_of (get_or (write_head s t.head) 1 0) (get_or (write_rows s t.rows) 0 []) ≡ s.tableau.objective
  unfolding heading
  cost-back =
      let m = fits.symbols in
      let e : length s.tableau.objective ≡ length s.tableau.symbols = fits.objective in
      rw (count-back s t.head l.0 1 (omega arith), objective-written s t.rows l.3, ← e) (objective-back s.tableau.objective (get_or t.rows 0 []) (w.2 0 (omega arith)) (omega arith))

  variables-back : variables_of (write s t) ≡ s.changes.variables
  unfolding variables_of write write_names write_reals record_counts
  variables-back =
      rw (record-back s t.head l.0 0 (omega arith)) (list_of-is _ s.changes.variables no_variable λ j k.
      let r = fits.variables in
      rw (variable-written (λ v m. over 0 (variable_names v) m) (λ c m. over 0 (constraint_names c) m) (λ e m. over 0 (edit_names e) m) s t.names l.1 fits j k, variable-written (λ v m. over 0 (variable_reals v) m) (λ c m. over 0 (constraint_reals c) m) (λ e m. over 0 (edit_reals e) m) s t.reals l.2 fits j k)
      (variable-back (get_or s.changes.variables j no_variable) (get_or t.names j []) (get_or t.reals j []) (w.0 j (omega arith)) (w.1 j (omega arith))))

  constraints-back : constraints_of (write s t) ≡ s.constraints
  unfolding constraints_of write write_names write_reals record_counts
  constraints-back =
      rw (record-back s t.head l.0 1 (omega arith)) (list_of-is _ s.constraints no_constraint λ j k.
      let r = fits.constraints in
      rw (constraint-written (λ v m. over 0 (variable_names v) m) (λ c m. over 0 (constraint_names c) m) (λ e m. over 0 (edit_names e) m) s t.names l.1 fits j k, constraint-written (λ v m. over 0 (variable_reals v) m) (λ c m. over 0 (constraint_reals c) m) (λ e m. over 0 (edit_reals e) m) s t.reals l.2 fits j k)
      (constraint-back (get_or s.constraints j no_constraint) (get_or t.names (constraints_at + j) []) (get_or t.reals (constraints_at + j) []) (w.0 (constraints_at + j) (omega arith)) (w.1 (constraints_at + j) (omega arith)) (fits.terms no_constraint j k) (fits.others no_constraint j k) (fits.groups no_constraint j k)))

  edits-back : edits_of (write s t) ≡ s.edits
  unfolding edits_of write write_names write_reals record_counts
  edits-back =
      rw (record-back s t.head l.0 2 (omega arith)) (list_of-is _ s.edits no_edit λ j k.
      let r = fits.edits in
      rw (edit-written (λ v m. over 0 (variable_names v) m) (λ c m. over 0 (constraint_names c) m) (λ e m. over 0 (edit_names e) m) s t.names l.1 fits j k, edit-written (λ v m. over 0 (variable_reals v) m) (λ c m. over 0 (constraint_reals c) m) (λ e m. over 0 (edit_reals e) m) s t.reals l.2 fits j k)
      (edit-back (get_or s.edits j no_edit) (get_or t.names (edits_at + j) []) (get_or t.reals (edits_at + j) []) (w.0 (edits_at + j) (omega arith)) (w.1 (edits_at + j) (omega arith)) (fits.minuses no_edit j k)))

  pub read-write : read (write s t) ≡ s
  unfolding read write heading record_counts
  read-write =
      rw (
        symbols-back,
        basics-back,
        cost-back,
        variables-back,
        constraints-back,
        edits-back,
        count-back s t.head l.0 0 (omega arith),
        record-back s t.head l.0 3 (omega arith),
        record-back s t.head l.0 4 (omega arith),
        bit-back s.changes.should_clear,
        bit-back s.whole,
        ← fits.usual,
        ← fits.gone,
      ) refl
