-- The live part of tables copied over others: the copy reads as the same state, and has the sparse form as well.
-- Assumes nothing.
use Prim.Native.Nat.{ℕ, ◌+◌, ◌-◌, ◌≤◌, ◌<◌}
use Rattle.std.specs.Prelude.{◌≡◌, List, []}
use Rattle.std.proofs.Math.Path.{refl}
use Rattle.std.proofs.Common.{◌∙◌, zero-add, arith}
use Rattle.std.specs.Float.Ieee.{Float, nan}
use Rattle.std.proofs.Math.ListN.{length, get_or}
use Rattle.laws.specs.Lists.{tab, get_or-tab, length-tab}
use Rattle.sparse.specs.Places.{next_id_at, ids_at, variable_numbers_at, variable_uses_at, constraint_numbers_at, constraint_groups_at, gone_numbers_at, kinds_at, row_places_at, variable_places_at, changed_at, constraint_markers_at, constraint_others_at, term_counts_at, edit_variables_at, edit_markers_at, edit_others_at, terms_at, relations_at, constants_at, old_values_at, objective_at, cutoff_at, constraint_strengths_at, edit_strengths_at, suggestions_at, coefficients_at, constraint_constants_at, words_size, bytes_size, reals_size}
use Rattle.sparse.specs.Sparse.{Sparse, symbol_count, row_count, cell_count, variable_count, constraint_count, edit_count, gone_count, terms_from, read}
use Rattle.sparse.specs.Stretches.{Stretch, Within, lay-in, length-lay, copied_at, length-copied}
use Rattle.sparse.specs.Fits.{Lengths}
use Rattle.sparse.specs.Form.{Counts, Form}
use Rattle.sparse.specs.Copy.{heading_end, live_words, live_bytes, live_reals, put_over}
use Rattle.sparse.specs.Agree.{Agree}
use Rattle.sparse.proofs.Agree.{read_same, form-same}

module _ (t w : Sparse) (c : Counts t) (len : Lengths w) where
  abbrev u : Sparse
  u = put_over t w

  within-words : Within words_size (live_words t)
  unfolding live_words
  within-words =
      let l : (a n : ℕ) → length (tab (λ j. get_or t.words j 0) a n) ≡ n = length-tab (λ j. get_or t.words j 0) in
      let v = c.variables in
      let k = c.symbols in
      let m = c.constraints in
      let g = c.gone in
      (omega (arith, l gone_numbers_at (gone_count t), g), (omega (arith, l constraint_groups_at (constraint_count t), m), (omega (arith, l constraint_numbers_at (constraint_count t), m), (omega (arith, l variable_uses_at (variable_count t), v), (omega (arith, l variable_numbers_at (variable_count t), v), (omega (arith, l (ids_at + 1) (symbol_count t), k), (omega (arith, l 0 heading_end), tt)))))))

  within-bytes : Within bytes_size (live_bytes t)
  unfolding live_bytes
  within-bytes =
      let l : (a n : ℕ) → length (tab (λ j. get_or t.bytes j 0) a n) ≡ n = length-tab (λ j. get_or t.bytes j 0) in
      let v = c.variables in
      let k = c.symbols in
      let m = c.constraints in
      let e = c.edits in
      let r = c.rows in
      let q = c.terms in
      (omega (arith, l relations_at (constraint_count t), m), (omega (arith, l terms_at (terms_from t (constraint_count t)), q), (omega (arith, l edit_others_at (edit_count t), e), (omega (arith, l edit_markers_at (edit_count t), e), (omega (arith, l edit_variables_at (edit_count t), e), (omega (arith, l term_counts_at (constraint_count t), m), (omega (arith, l constraint_others_at (constraint_count t), m), (omega (arith, l constraint_markers_at (constraint_count t), m), (omega (arith, l changed_at (variable_count t), v), (omega (arith, l variable_places_at (variable_count t), v), (omega (arith, l (row_places_at + 1) (row_count t), r), (omega (arith, l (kinds_at + 1) (symbol_count t), k), tt))))))))))))

  within-reals : Within reals_size (live_reals t)
  unfolding live_reals
  within-reals =
      let l : (a n : ℕ) → length (tab (λ j. get_or t.reals j nan) a n) ≡ n = length-tab (λ j. get_or t.reals j nan) in
      let v = c.variables in
      let k = c.symbols in
      let m = c.constraints in
      let e = c.edits in
      let r = c.rows in
      let q = c.terms in
      (omega (arith, l constraint_constants_at (constraint_count t), m), (omega (arith, l coefficients_at (terms_from t (constraint_count t)), q), (omega (arith, l suggestions_at (edit_count t), e), (omega (arith, l edit_strengths_at (edit_count t), e), (omega (arith, l constraint_strengths_at (constraint_count t), m), (omega (arith, l cutoff_at 1), (omega (arith, l (objective_at + 1) (symbol_count t), k), (omega (arith, l old_values_at (variable_count t), v), (omega (arith, l (constants_at + 1) (row_count t), r), tt)))))))))

  -- ---- a place of the i-th stretch, if it begins at a and has n places

  abbrev none : {A : Type 0} → Stretch A
  none = record { at = 0; list = [] }

  word : (i a n j : ℕ) → i < 7 → get_or (live_words t) i none ≡ (record { at = a; list = tab (λ j. get_or t.words j 0) a n }) → j < n → get_or u.words (a + j) 0 ≡ get_or t.words (a + j) 0
  unfolding put_over
  word i a n j h q k =
      let g : ℕ → ℕ = λ j. get_or t.words j 0 in
      let x = lay-in words_size (live_words t) w.words within-words (omega (arith, len.0)) i j 0 (unfold live_words in h) (rw (q, length-tab g a n) k) in
      (rw q at x) ∙ get_or-tab g a n j 0 k

  byte : (i a n j : ℕ) → i < 12 → get_or (live_bytes t) i none ≡ (record { at = a; list = tab (λ j. get_or t.bytes j 0) a n }) → j < n → get_or u.bytes (a + j) 0 ≡ get_or t.bytes (a + j) 0
  unfolding put_over
  byte i a n j h q k =
      let g : ℕ → ℕ = λ j. get_or t.bytes j 0 in
      let x = lay-in bytes_size (live_bytes t) w.bytes within-bytes (omega (arith, len.2)) i j 0 (unfold live_bytes in h) (rw (q, length-tab g a n) k) in
      (rw q at x) ∙ get_or-tab g a n j 0 k

  real : (i a n j : ℕ) → i < 9 → get_or (live_reals t) i none ≡ (record { at = a; list = tab (λ j. get_or t.reals j nan) a n }) → j < n → get_or u.reals (a + j) nan ≡ get_or t.reals (a + j) nan
  unfolding put_over
  real i a n j h q k =
      let g : ℕ → Float = λ j. get_or t.reals j nan in
      let x = lay-in reals_size (live_reals t) w.reals within-reals (omega (arith, len.3)) i j nan (unfold live_reals in h) (rw (q, length-tab g a n) k) in
      (rw q at x) ∙ get_or-tab g a n j nan k

  -- from place 1 on
  from_one : {A : Type 0} (l m : List A) (d : A) (a p : ℕ) → 1 ≤ p → get_or l (a + 1 + (p - 1)) d ≡ get_or m (a + 1 + (p - 1)) d → get_or l (a + p) d ≡ get_or m (a + p) d
  from_one l m d a p h q =
      let o : a + 1 + (p - 1) ≡ a + p = omega (arith, h) in
      rw o at q

  pub copy-agrees : Agree t u
  unfolding live_words live_bytes live_reals
  copy-agrees =
      record {
        heading = λ j h. rw (zero-add j) at (word 6 next_id_at heading_end j (omega arith) refl h);
        ids = λ p a b. from_one u.words t.words 0 ids_at p a (word 5 (ids_at + 1) (symbol_count t) (p - 1) (omega arith) refl (omega (arith, a, b)));
        numbers = λ j h. word 4 variable_numbers_at (variable_count t) j (omega arith) refl h;
        uses = λ j h. word 3 variable_uses_at (variable_count t) j (omega arith) refl h;
        constraint_numbers = λ j h. word 2 constraint_numbers_at (constraint_count t) j (omega arith) refl h;
        constraint_groups = λ j h. word 1 constraint_groups_at (constraint_count t) j (omega arith) refl h;
        gone = λ j h. word 0 gone_numbers_at (gone_count t) j (omega arith) refl h;
        kinds = λ p a b. from_one u.bytes t.bytes 0 kinds_at p a (byte 11 (kinds_at + 1) (symbol_count t) (p - 1) (omega arith) refl (omega (arith, a, b)));
        row_places = λ p a b. from_one u.bytes t.bytes 0 row_places_at p a (byte 10 (row_places_at + 1) (row_count t) (p - 1) (omega arith) refl (omega (arith, a, b)));
        owners = λ j h. byte 9 variable_places_at (variable_count t) j (omega arith) refl h;
        changed = λ j h. byte 8 changed_at (variable_count t) j (omega arith) refl h;
        markers = λ j h. byte 7 constraint_markers_at (constraint_count t) j (omega arith) refl h;
        others = λ j h. byte 6 constraint_others_at (constraint_count t) j (omega arith) refl h;
        term_counts = λ j h. byte 5 term_counts_at (constraint_count t) j (omega arith) refl h;
        edited = λ j h. byte 4 edit_variables_at (edit_count t) j (omega arith) refl h;
        pluses = λ j h. byte 3 edit_markers_at (edit_count t) j (omega arith) refl h;
        minuses = λ j h. byte 2 edit_others_at (edit_count t) j (omega arith) refl h;
        terms = λ j h. byte 1 terms_at (terms_from t (constraint_count t)) j (omega arith) refl h;
        relations = λ j h. byte 0 relations_at (constraint_count t) j (omega arith) refl h;
        constants = λ p a b. from_one u.reals t.reals nan constants_at p a (real 8 (constants_at + 1) (row_count t) (p - 1) (omega arith) refl (omega (arith, a, b)));
        olds = λ j h. real 7 old_values_at (variable_count t) j (omega arith) refl h;
        objective = λ p a b. from_one u.reals t.reals nan objective_at p a (real 6 (objective_at + 1) (symbol_count t) (p - 1) (omega arith) refl (omega (arith, a, b)));
        cutoff = real 5 cutoff_at 1 0 (omega arith) refl (omega arith);
        strengths = λ j h. real 4 constraint_strengths_at (constraint_count t) j (omega arith) refl h;
        edit_strengths = λ j h. real 3 edit_strengths_at (edit_count t) j (omega arith) refl h;
        suggestions = λ j h. real 2 suggestions_at (edit_count t) j (omega arith) refl h;
        coefficients = λ j h. real 1 coefficients_at (terms_from t (constraint_count t)) j (omega arith) refl h;
        constraint_constants = λ j h. real 0 constraint_constants_at (constraint_count t) j (omega arith) refl h;
        keys = keys-same;
        values = values_same;
      }
    where
      keys-same : (j : ℕ) → j < cell_count t → get_or u.keys j 0 ≡ get_or t.keys j 0
      keys-same j h = unfold put_over in copied_at (λ j. get_or t.keys j 0) (cell_count t) w.keys j 0 h (omega (arith, c.cells, len.1))

      values_same : (j : ℕ) → j < cell_count t → get_or u.values j nan ≡ get_or t.values j nan
      values_same j h = unfold put_over in copied_at (λ j. get_or t.values j nan) (cell_count t) w.values j nan h (omega (arith, c.cells, len.4))

  pub copy-lengths : Lengths u
  unfolding put_over
  copy-lengths = (
    length-lay (live_words t) w.words ∙ len.0,
    length-copied (λ j. get_or t.keys j 0) (cell_count t) w.keys ∙ len.1,
    length-lay (live_bytes t) w.bytes ∙ len.2,
    length-lay (live_reals t) w.reals ∙ len.3,
    length-copied (λ j. get_or t.values j nan) (cell_count t) w.values ∙ len.4,
  )

-- ---- the copy

module _ (t w : Sparse) (form : Form t) (len : Lengths w) where
  pub copy-reads : read (put_over t w) ≡ read t
  copy-reads = read_same t (put_over t w) (copy-agrees t w form.counts len) form

  pub copy-form : Form (put_over t w)
  copy-form = form-same t (put_over t w) (copy-agrees t w form.counts len) form
