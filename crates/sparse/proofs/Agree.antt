-- Tables that agree on the live part read as the same state, and have the sparse form together; a copy of the live part agrees.
-- Assumes nothing.
use Prim.Native.Nat.{ℕ, zero, suc, ◌+◌, ◌*◌, ◌≤◌, ◌<◌}
use Rattle.std.specs.Prelude.{◌≡◌}
use Rattle.std.proofs.Math.Path.{refl, sym, ap}
use Rattle.std.proofs.Common.{◌∙◌}
use native.Mathlib.Omega.{arith}
use Rattle.std.proofs.Math.Dec.{eqb}
use Rattle.std.specs.Float.{nan}
use Rattle.std.proofs.Math.ListN.{get_or}
use Rattle.laws.specs.Lists.{tab, tab-ext, list_of}
use Rattle.layout.specs.Laying.{list_ext}
use Rattle.layout.specs.cells.Names.{row_span}
use Rattle.layout.specs.cells.Cells.{Ascending, cell_at, row_of}
use Rattle.layout.specs.cells.Seek.{first-within}
use Rattle.layout.specs.cells.Reads.{cell-within}
use Rattle.sparse.specs.Places.{variable_numbers_at, row_places_at, variable_places_at, constraint_markers_at, constraint_others_at, term_counts_at, edit_variables_at, edit_markers_at, edit_others_at, terms_at, objective_at}
use Rattle.sparse.specs.Sparse.{Sparse, symbol_count, row_count, cell_count, variable_count, constraint_count, edit_count, symbol_at, other_at, number_at, variable_of, terms_from, term_of, constraint_of, edit_of, basic_of, symbols_of, basics_of, objective_of, gone_of, read}
use Rattle.sparse.specs.Concat.{sum-ext, sum-in, sum-le}
use Rattle.sparse.specs.Repack.{Held}
use Rattle.sparse.specs.Form.{index_at, Counts, At, Form}
use Rattle.sparse.specs.Agree.{Agree}

module _ (t u : Sparse) (same : Agree t u) where
  symbol-same : (p : ℕ) → At t p → symbol_at u p ≡ symbol_at t p
  unfolding symbol_at
  symbol-same p l = rw (same.ids p l.0 l.1, same.kinds p l.0 l.1) refl

  other-same : (p : ℕ) → p ≤ symbol_count t → other_at u p ≡ other_at t p
  unfolding other_at
  other-same zero l = refl
  other-same (suc p) l = rw (symbol-same (suc p) (omega arith, l)) refl

  number_same : (p : ℕ) → number_at u p ≡ number_at t p
  unfolding number_at
  number_same p =
      let v = same.heading 4 (omega arith) in
      rw v (first-within (λ v. eqb p (get_or u.bytes (variable_places_at + v) 0)) (λ v. eqb p (get_or t.bytes (variable_places_at + v) 0)) (λ v. get_or u.words (variable_numbers_at + v) 0) (λ v. get_or t.words (variable_numbers_at + v) 0) 0 0 0 (variable_count t) (variable_count t) (omega arith) (omega arith) (omega arith)
      (λ j a b. ap (eqb p) (same.owners j b)) (λ j a b. same.numbers j b) (λ j a b. absurd (omega (arith, b))) λ j a b. absurd (omega (arith, a, b)))

  index_same : (p : ℕ) → index_at u p ≡ index_at t p
  unfolding index_at
  index_same p =
      let v = same.heading 4 (omega arith) in
      rw v (first-within (λ v. eqb p (get_or u.bytes (variable_places_at + v) 0)) (λ v. eqb p (get_or t.bytes (variable_places_at + v) 0)) (λ v. v) (λ v. v) (variable_count t) 0 0 (variable_count t) (variable_count t) (omega arith) (omega arith) (omega arith)
      (λ j a b. ap (eqb p) (same.owners j b)) (λ j a b. refl) (λ j a b. absurd (omega (arith, b))) λ j a b. absurd (omega (arith, a, b)))

  terms-same : (i : ℕ) → i ≤ constraint_count t → terms_from u i ≡ terms_from t i
  unfolding terms_from
  terms-same i h = sum-in _ i ∙ sum-ext _ _ 0 i (λ j k. same.term_counts j (omega (arith, h, k))) ∙ sym (sum-in _ i)

  cell_same : (x : ℕ) → cell_at u.keys u.values (cell_count t) x ≡ cell_at t.keys t.values (cell_count t) x
  unfolding cell_at
  cell_same x = cell-within u.keys t.keys u.values t.values x 0 0 (cell_count t) (cell_count t) (omega arith) (omega arith) (omega arith) (λ j a b. same.keys j b) (λ j a b. same.values j b) (λ j a b. absurd (omega (arith, b))) λ j a b. absurd (omega (arith, a, b))

  row_same : (i : ℕ) → row_of u.keys u.values (cell_count t) (symbol_count t) i ≡ row_of t.keys t.values (cell_count t) (symbol_count t) i
  unfolding row_of
  row_same i = tab-ext _ _ 1 (symbol_count t) λ p a b. cell_same (i * row_span + p)

  gone_same : gone_of u ≡ gone_of t
  unfolding gone_of
  gone_same = rw (same.heading 9 (omega arith)) (list_ext _ _ _ same.gone)

  module _ (form : Form t) where
    basic-same : (i : ℕ) → 1 ≤ i → i ≤ row_count t → basic_of u i ≡ basic_of t i
    unfolding basic_of
    basic-same i a b = rw (same.row_places i a b, symbol-same (get_or t.bytes (row_places_at + i) 0) (form.rows i a b), same.constants i a b, same.heading 3 (omega arith), same.heading 1 (omega arith), row_same i) refl

    variable-same : (j : ℕ) → j < variable_count t → variable_of u j ≡ variable_of t j
    unfolding variable_of
    variable-same j h = rw (same.numbers j h, same.owners j h, symbol-same (get_or t.bytes (variable_places_at + j) 0) (form.owners j h), same.olds j h, same.uses j h, same.changed j h) refl

    term-same : (i j : ℕ) → i < constraint_count t → j < get_or t.bytes (term_counts_at + i) 0 → term_of u (terms_from t i) j ≡ term_of t (terms_from t i) j
    unfolding term_of
    term-same i j h k =
        let l : terms_from t i + j < terms_from t (constraint_count t) = within i j h k in
        rw (same.terms (terms_from t i + j) l, number_same (get_or t.bytes (terms_at + (terms_from t i + j)) 0), same.coefficients (terms_from t i + j) l) refl
      where
        within : (i j : ℕ) → i < constraint_count t → j < get_or t.bytes (term_counts_at + i) 0 → terms_from t i + j < terms_from t (constraint_count t)
        within i j h k = unfold terms_from in rw (sum-in (λ c. get_or t.bytes (term_counts_at + c) 0) i, sum-in (λ c. get_or t.bytes (term_counts_at + c) 0) (constraint_count t)) (sum-le (λ c. get_or t.bytes (term_counts_at + c) 0) i (constraint_count t) j h k)

    constraint-same : (i : ℕ) → i < constraint_count t → constraint_of u i ≡ constraint_of t i
    unfolding constraint_of
    constraint-same i h =
        let ts : list_of (get_or t.bytes (term_counts_at + i) 0) (term_of u (terms_from t i)) ≡ list_of (get_or t.bytes (term_counts_at + i) 0) (term_of t (terms_from t i)) = list_ext _ _ _ λ j k. term-same i j h k in
        rw (same.constraint_numbers i h, same.constraint_groups i h, same.relations i h, same.strengths i h, same.constraint_constants i h, same.term_counts i h, terms-same i (omega arith), ts, same.markers i h, symbol-same (get_or t.bytes (constraint_markers_at + i) 0) (form.markers i h), same.others i h, other-same (get_or t.bytes (constraint_others_at + i) 0) (form.others i h)) refl

    edit-same : (i : ℕ) → i < edit_count t → edit_of u i ≡ edit_of t i
    unfolding edit_of
    edit-same i h =
        rw (same.edited i h, number_same (get_or t.bytes (edit_variables_at + i) 0), same.edit_strengths i h, same.pluses i h, symbol-same (get_or t.bytes (edit_markers_at + i) 0) (form.pluses i h), same.minuses i h, other-same (get_or t.bytes (edit_others_at + i) 0) (form.minuses i h), same.suggestions i h) refl

    pub read_same : read u ≡ read t
    unfolding read symbols_of basics_of objective_of
    read_same =
        let h = same.heading in
        let xs : tab (symbol_at u) 1 (symbol_count t) ≡ tab (symbol_at t) 1 (symbol_count t) = tab-ext _ _ 1 (symbol_count t) λ p a b. symbol-same p (a, omega (arith, b)) in
        let bs : tab (basic_of u) 1 (row_count t) ≡ tab (basic_of t) 1 (row_count t) = tab-ext _ _ 1 (row_count t) λ p a b. basic-same p a (omega (arith, b)) in
        let os : tab (λ p. get_or u.reals (objective_at + p) nan) 1 (symbol_count t) ≡ tab (λ p. get_or t.reals (objective_at + p) nan) 1 (symbol_count t) = tab-ext _ _ 1 (symbol_count t) λ p a b. same.objective p a (omega (arith, b)) in
        let vs : list_of (variable_count t) (variable_of u) ≡ list_of (variable_count t) (variable_of t) = list_ext _ _ _ variable-same in
        let cs : list_of (constraint_count t) (constraint_of u) ≡ list_of (constraint_count t) (constraint_of t) = list_ext _ _ _ constraint-same in
        let es : list_of (edit_count t) (edit_of u) ≡ list_of (edit_count t) (edit_of t) = list_ext _ _ _ edit-same in
        rw (h 0 (omega arith), h 1 (omega arith), h 2 (omega arith), h 4 (omega arith), h 5 (omega arith), h 6 (omega arith), h 7 (omega arith), h 8 (omega arith), same.cutoff, xs, bs, os, vs, gone_same, cs, es) refl

    at_same : (p : ℕ) → At t p → At u p
    at_same p l = (l.0, rw (same.heading 1 (omega arith)) l.1)

    counts_same : Counts u
    counts_same =
        let h = same.heading in
        let c = form.counts in
        record {
          symbols = rw (h 1 (omega arith)) c.symbols;
          rows = rw (h 2 (omega arith)) c.rows;
          cells = rw (h 3 (omega arith)) c.cells;
          variables = rw (h 4 (omega arith)) c.variables;
          constraints = rw (h 5 (omega arith)) c.constraints;
          edits = rw (h 6 (omega arith)) c.edits;
          terms = rw (h 5 (omega arith), terms-same (constraint_count t) (omega arith)) c.terms;
          gone = rw (h 9 (omega arith)) c.gone;
        }

    held_same : Held u.keys u.values (cell_count t) (symbol_count t) (row_count t)
    unfolding Ascending
    held_same =
        record {
          up = λ a b h k. rw (same.keys a (omega (arith, h, k)), same.keys b k) (form.cells.up a b h k);
          rows = λ j h. rw (same.keys j h) (form.cells.rows j h);
          places = λ j h. rw (same.keys j h) (form.cells.places j h);
          present = λ j h. rw (same.values j h) (form.cells.present j h);
        }

    pub form-same : Form u
    form-same =
        let h = same.heading in
        let k₁ = h 1 (omega arith) in
        let k₄ = h 4 (omega arith) in
        let k₅ = h 5 (omega arith) in
        let k₆ = h 6 (omega arith) in
        record {
          counts = counts_same;
          clear = rw (h 7 (omega arith)) form.clear;
          whole = rw (h 8 (omega arith)) form.whole;
          ids = λ i j a b c. rw (same.ids i a (omega (arith, b, c, k₁)), same.ids j (omega (arith, a, b)) (omega (arith, c, k₁))) (form.ids i j a b (omega (arith, c, k₁)));
          kinds = λ p a b. rw (same.kinds p a (omega (arith, b, k₁))) (form.kinds p a (omega (arith, b, k₁)));
          rows = λ i a b. let c = rw (h 2 (omega arith)) at b in at_same _ (rw (same.row_places i a c) (form.rows i a c));
          cells = rw (h 1 (omega arith), h 2 (omega arith), h 3 (omega arith)) held_same;
          numbers = λ i j a b. rw (same.numbers i (omega (arith, a, b, k₄)), same.numbers j (omega (arith, b, k₄))) (form.numbers i j a (omega (arith, b, k₄)));
          owners = λ i a. let b = rw k₄ at a in at_same _ (rw (same.owners i b) (form.owners i b));
          changed = λ i a. let b = rw k₄ at a in rw (same.changed i b) (form.changed i b);
          markers = λ i a. let b = rw k₅ at a in at_same _ (rw (same.markers i b) (form.markers i b));
          others = λ i a. let b = rw k₅ at a in rw (k₁, same.others i b) (form.others i b);
          relations = λ i a. let b = rw k₅ at a in rw (same.relations i b) (form.relations i b);
          edited = λ i a. let b = rw k₆ at a in rw (k₄, same.edited i b, index_same (get_or t.bytes (edit_variables_at + i) 0)) (form.edited i b);
          pluses = λ i a. let b = rw k₆ at a in at_same _ (rw (same.pluses i b) (form.pluses i b));
          minuses = λ i a. let b = rw k₆ at a in rw (k₁, same.minuses i b) (form.minuses i b);
          named = λ j a. let b = rw (k₅, terms-same (constraint_count t) (omega arith)) at a in rw (k₄, same.terms j b, index_same (get_or t.bytes (terms_at + j) 0)) (form.named j b);
        }
