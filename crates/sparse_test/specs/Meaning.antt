-- What tables that read as a state give: the state is readable, and the tables have the sparse form.
-- Assumes nothing.
use Rattle.std.specs.Prelude.{ℕ, ◌+◌, ◌-◌, ◌/◌, ◌%◌, ◌≤◌, ◌<◌, ◌≡◌, Bool, true, map, leb, length}
use Rattle.std.proofs.Math.Path.{refl, sym}
use Rattle.std.proofs.Common.{ap, ◌∙◌, arith}
use Rattle.std.proofs.Math.Dec.{ltb}
use Rattle.std.specs.Float.{nan}
use Rattle.std.specs.Float.Ieee.{ne}
use Rattle.std.proofs.Math.ListN.{get_or}
use borrow.Author.Tests.{leb-true, le-leb, ltb-true, lt-ltb}
use Rattle.layout.specs.Rooms.{both}
use Rattle.layout.proofs.Copied.{length-list_of}
use Rattle.steps.specs.Number.{zero64}
use Rattle.steps.specs.State.{Constraint, Edit}
use Rattle.steps.specs.Readable as steps
use Rattle.keeps.specs.Clauses.{and3, clauses-in}
use Rattle.layout.specs.Layout.{term_room}
use Rattle.layout.specs.cells.Names.{row_span, last_place, cell_room}
use Rattle.layout.specs.cells.Cells.{present_of}
use Rattle.layout.specs.cells.Load.{ascends-true}
use Rattle.rows.specs.places.Finding.{all-at}
use Rattle.rows.specs.places.Listed.{join, listed_at, at_listed, ascend-list, from_list}
use Rattle.sparse.specs.Places.{most_variables, most_constraints, most_terms, most_gone, next_id_at, should_clear_at, whole_at, ids_at, variable_numbers_at, constraint_numbers_at, gone_numbers_at, kinds_at, row_places_at, variable_places_at, changed_at, constraint_markers_at, constraint_others_at, term_counts_at, edit_variables_at, edit_markers_at, edit_others_at, terms_at, relations_at}
use Rattle.sparse.specs.Sparse.{Sparse, symbol_count, row_count, cell_count, variable_count, constraint_count, edit_count, gone_count, terms_from, term_of, constraint_of, read}
use Rattle.sparse.specs.Concat.{sum-most}
use Rattle.sparse.specs.Repack.{Held}
use Rattle.sparse.specs.Form.{index_at, At, Form}
use Rattle.sparse_test.specs.Stretch.{ascend_in, most_in, ascends, between, most}
use Rattle.sparse_test.specs.Reads.{greatest_u32, counts_fit, live_in, named_in, key_fits, cells_fit, form_fits, reads}
use Rattle.sparse_test.specs.Views.{ids-are, numbers-are}

-- ---- the parts of the test

pub record Counted (t : Sparse) : Type 0 where
  pub above : 0 < get_or t.words next_id_at 0
  pub next : get_or t.words next_id_at 0 ≤ greatest_u32
  pub symbols : symbol_count t ≤ last_place
  pub cells : cell_count t ≤ cell_room
  pub variables : variable_count t ≤ most_variables
  pub clear : get_or t.words should_clear_at 0 ≤ 1
  pub whole : get_or t.words whole_at 0 ≤ 1
  pub gone : gone_count t ≤ most_gone
  pub constraints : constraint_count t ≤ most_constraints
  pub edits : edit_count t ≤ most_constraints
  pub tags : constraint_count t + edit_count t ≤ most_constraints
  pub rows : row_count t ≤ constraint_count t + edit_count t

pub counted : (t : Sparse) → counts_fit t ≡ true → Counted t
unfolding counts_fit
counted t q =
    let a = both _ _ q in
    let n = both _ _ a.0 in
    let b = both _ _ n.0 in
    let c = both _ _ b.0 in
    let d = both _ _ c.0 in
    let e = both _ _ d.0 in
    let f = both _ _ e.0 in
    let g = both _ _ f.0 in
    let r₁ = both _ _ a.1 in
    let r₂ = both _ _ r₁.1 in
    let r₃ = both _ _ r₂.1 in
    record {
      above = ltb-true _ _ g.0;
      next = leb-true _ _ g.1;
      symbols = leb-true _ _ f.1;
      cells = leb-true _ _ e.1;
      variables = leb-true _ _ d.1;
      clear = leb-true _ _ c.1;
      whole = leb-true _ _ b.1;
      gone = leb-true _ _ n.1;
      constraints = leb-true _ _ r₁.0;
      edits = leb-true _ _ r₂.0;
      tags = leb-true _ _ r₃.0;
      rows = leb-true _ _ r₃.1;
    }

pub recounted : (t : Sparse) → Counted t → counts_fit t ≡ true
unfolding counts_fit
recounted t c =
    join (join (join (join (join (join (join (join (lt-ltb _ _ c.above) (le-leb _ _ c.next)) (le-leb _ _ c.symbols)) (le-leb _ _ c.cells)) (le-leb _ _ c.variables)) (le-leb _ _ c.clear)) (le-leb _ _ c.whole)) (le-leb _ _ c.gone))
    (join (le-leb _ _ c.constraints) (join (le-leb _ _ c.edits) (join (le-leb _ _ c.tags) (le-leb _ _ c.rows))))

pub record FormParts (t : Sparse) : Type 0 where
  pub counts : Counted t
  pub kinds : most_in t.bytes (kinds_at + 1) (symbol_count t) 3 ≡ true
  pub rows : live_in t (row_places_at + 1) (row_count t) ≡ true
  pub cells : cells_fit t ≡ true
  pub numbers : most_in t.words variable_numbers_at (variable_count t) greatest_u32 ≡ true
  pub owners : live_in t variable_places_at (variable_count t) ≡ true
  pub changed : most_in t.bytes changed_at (variable_count t) 1 ≡ true
  pub constraints : most_in t.words constraint_numbers_at (constraint_count t) greatest_u32 ≡ true
  pub markers : live_in t constraint_markers_at (constraint_count t) ≡ true
  pub others : most_in t.bytes constraint_others_at (constraint_count t) (symbol_count t) ≡ true
  pub named : named_in t terms_at (terms_from t (constraint_count t)) ≡ true
  pub edited : named_in t edit_variables_at (edit_count t) ≡ true
  pub pluses : live_in t edit_markers_at (edit_count t) ≡ true
  pub minuses : most_in t.bytes edit_others_at (edit_count t) (symbol_count t) ≡ true
  pub gone : most_in t.words gone_numbers_at (gone_count t) greatest_u32 ≡ true
  pub relations : most_in t.bytes relations_at (constraint_count t) 2 ≡ true

pub form-parts : (t : Sparse) → form_fits t ≡ true → FormParts t
unfolding form_fits
form-parts t q =
    let y = both _ _ q in
    let z = both _ _ y.0 in
    let a = both _ _ z.0 in
    let b = both _ _ a.0 in
    let c = both _ _ b.0 in
    let d = both _ _ c.0 in
    let e = both _ _ d.0 in
    let f = both _ _ e.0 in
    let g = both _ _ f.0 in
    let h = both _ _ g.0 in
    let i = both _ _ h.0 in
    let j = both _ _ i.0 in
    let k = both _ _ j.0 in
    let l = both _ _ k.0 in
    let m = both _ _ l.0 in
    record {
      counts = counted t m.0;
      kinds = m.1;
      rows = l.1;
      cells = k.1;
      numbers = j.1;
      owners = i.1;
      changed = h.1;
      constraints = g.1;
      markers = f.1;
      others = e.1;
      named = d.1;
      edited = c.1;
      pluses = b.1;
      minuses = a.1;
      gone = z.1;
      relations = y.1;
    }

pub form-joined : (t : Sparse) → FormParts t → form_fits t ≡ true
unfolding form_fits
form-joined t p =
    join (join (join (join (join (join (join (join (join (join (join (join (join (join (join (recounted t p.counts) p.kinds) p.rows) p.cells) p.numbers) p.owners) p.changed) p.constraints) p.markers) p.others) p.named) p.edited) p.pluses) p.minuses) p.gone) p.relations

-- ---- what they say of each place

module _ (t : Sparse) where
  pub live_at : (a n : ℕ) → live_in t a n ≡ true → (j : ℕ) → j < n → At t (get_or t.bytes (a + j) 0)
  unfolding live_in
  live_at a n h j k =
      let q = between t.bytes a n 1 (symbol_count t + 1) h j k in
      let b = q.1 in
      (q.0, omega (arith, b))

  pub named-at : (a n : ℕ) → named_in t a n ≡ true → (j : ℕ) → j < n → index_at t (get_or t.bytes (a + j) 0) < variable_count t
  unfolding named_in
  named-at a n h j k = ltb-true _ _ (all-at (λ j. ltb (index_at t (get_or t.bytes (a + j) 0)) (variable_count t)) 0 n h j (omega arith) k)

  pub held_in : cells_fit t ≡ true → Held t.keys t.values (cell_count t) (symbol_count t) (row_count t)
  unfolding cells_fit key_fits present_of
  held_in q =
      let a = both _ _ q in
      let b = both _ _ a.0 in
      let f : (j : ℕ) → j < cell_count t → (1 ≤ get_or t.keys j 0 / row_span) × (get_or t.keys j 0 / row_span ≤ row_count t) × (1 ≤ get_or t.keys j 0 % row_span) × (get_or t.keys j 0 % row_span ≤ symbol_count t) =
      λ j h.
      let u = both _ _ (all-at (λ j. key_fits t (get_or t.keys j 0)) 0 (cell_count t) a.1 j (omega arith) h) in
      let v = both _ _ u.0 in
      let w = both _ _ u.1 in
      (leb-true _ _ v.0, leb-true _ _ v.1, leb-true _ _ w.0, leb-true _ _ w.1) in
      record {
        up = ascends-true t.keys (cell_count t) b.0;
        rows = λ j h. ((f j h).0, (f j h).1);
        places = λ j h. ((f j h).2, (f j h).3);
        present = λ j h. all-at (λ j. ne (get_or t.values j nan) zero64) 0 (cell_count t) b.1 j (omega arith) h;
      }

  -- ---- the sparse form

  ids_up : steps.symbols_distinct (read t) ≡ true → (i j : ℕ) → 1 ≤ i → i < j → j ≤ symbol_count t → get_or t.words (ids_at + i) 0 < get_or t.words (ids_at + j) 0
  unfolding steps.symbols_distinct ascend_in
  ids_up q i j a b c =
      let x = and3 (steps.ascend_from 0 (steps.live_ids (read t))) (steps.ascend (steps.basic_ids (read t))) (steps.distinct (steps.owned (read t))) q in
      let u = (from_list (symbol_count t) (λ j. get_or t.words (ids_at + 1 + j) 0) (sym (ap (steps.ascend_from 0) (ids-are t)) ∙ x.0)).0 in
      let o : ids_at + 1 + (i - 1) ≡ ids_at + i = omega (arith, a) in
      let p : ids_at + 1 + (j - 1) ≡ ids_at + j = omega (arith, a, b) in
      rw (o, p) at (ascends t.words (ids_at + 1) (symbol_count t) u (i - 1) (j - 1) (omega (arith, a, b)) (omega (arith, a, b, c)))

  numbers_up : steps.numbers_ascend (read t) ≡ true → (i j : ℕ) → i < j → j < variable_count t → get_or t.words (variable_numbers_at + i) 0 < get_or t.words (variable_numbers_at + j) 0
  unfolding steps.numbers_ascend ascend_in
  numbers_up q i j a b =
      let x = and3 (steps.ascend (steps.numbers (read t))) (steps.ascend (map (λ (c : Constraint). c.number) (read t).constraints)) (steps.ascend (map (λ (e : Edit). e.variable) (read t).edits)) q in
      let u = sym (ascend-list (variable_count t) (λ j. get_or t.words (variable_numbers_at + j) 0)) ∙ sym (ap steps.ascend (numbers-are t)) ∙ x.0 in
      ascends t.words variable_numbers_at (variable_count t) u i j a b

  abbrev pub few_terms : Constraint → Bool
  few_terms c = leb (length c.terms) term_room

  few-is : (i : ℕ) → few_terms (constraint_of t i) ≡ leb (get_or t.bytes (term_counts_at + i) 0) term_room
  unfolding constraint_of
  few-is i = rw (length-list_of (get_or t.bytes (term_counts_at + i) 0) (term_of t (terms_from t i))) refl

  pub few-in : steps.all few_terms (read t).constraints ≡ true → (i : ℕ) → i < constraint_count t → get_or t.bytes (term_counts_at + i) 0 ≤ term_room
  unfolding read
  few-in q i h = leb-true _ _ (sym (few-is i) ∙ listed_at few_terms (constraint_count t) (constraint_of t) q i h)

  pub few-out : ((i : ℕ) → i < constraint_count t → get_or t.bytes (term_counts_at + i) 0 ≤ term_room) → steps.all few_terms (read t).constraints ≡ true
  unfolding read
  few-out f = at_listed few_terms (constraint_count t) (constraint_of t) λ i h. few-is i ∙ le-leb _ _ (f i h)

  pub terms-fit : constraint_count t ≤ most_constraints → ((i : ℕ) → i < constraint_count t → get_or t.bytes (term_counts_at + i) 0 ≤ term_room) → terms_from t (constraint_count t) ≤ most_terms
  unfolding terms_from
  terms-fit h f = let m = sum-most (λ c. get_or t.bytes (term_counts_at + c) 0) (constraint_count t) f in omega (arith, m, h)

  few-terms : steps.counts_in_range (read t) ≡ true → (i : ℕ) → i < constraint_count t → get_or t.bytes (term_counts_at + i) 0 ≤ term_room
  unfolding steps.counts_in_range
  few-terms q = few-in (and3 (leb (length (read t).changes.variables) most_variables) (leb (length (steps.tags (read t))) most_constraints) (steps.all few_terms (read t).constraints) q).2

  pub form_in : FormParts t → ((i j : ℕ) → 1 ≤ i → i < j → j ≤ symbol_count t → get_or t.words (ids_at + i) 0 < get_or t.words (ids_at + j) 0) → ((i j : ℕ) → i < j → j < variable_count t → get_or t.words (variable_numbers_at + i) 0 < get_or t.words (variable_numbers_at + j) 0) → terms_from t (constraint_count t) ≤ most_terms → Form t
  form_in p ids numbers terms =
      let c = p.counts in
      let r = c.rows in
      let g = c.tags in
      record {
        counts = record { symbols = c.symbols; rows = omega (arith, r, g); cells = c.cells; variables = c.variables; constraints = c.constraints; edits = c.edits; terms = terms; gone = c.gone };
        clear = c.clear;
        whole = c.whole;
        ids = ids;
        kinds = λ i a b. let o : kinds_at + 1 + (i - 1) ≡ kinds_at + i = omega (arith, a) in rw o at (most t.bytes (kinds_at + 1) (symbol_count t) 3 p.kinds (i - 1) (omega (arith, a, b)));
        rows = λ i a b. let o : row_places_at + 1 + (i - 1) ≡ row_places_at + i = omega (arith, a) in rw o at (live_at (row_places_at + 1) (row_count t) p.rows (i - 1) (omega (arith, a, b)));
        cells = held_in p.cells;
        numbers = numbers;
        owners = live_at variable_places_at (variable_count t) p.owners;
        changed = most t.bytes changed_at (variable_count t) 1 p.changed;
        markers = live_at constraint_markers_at (constraint_count t) p.markers;
        others = most t.bytes constraint_others_at (constraint_count t) (symbol_count t) p.others;
        relations = most t.bytes relations_at (constraint_count t) 2 p.relations;
        edited = named-at edit_variables_at (edit_count t) p.edited;
        pluses = live_at edit_markers_at (edit_count t) p.pluses;
        minuses = most t.bytes edit_others_at (edit_count t) (symbol_count t) p.minuses;
        named = named-at terms_at (terms_from t (constraint_count t)) p.named;
      }

  -- ---- the meaning

  pub reads-readable : reads t ≡ true → steps.readable (read t) ≡ true
  unfolding reads
  reads-readable q = (both (form_fits t) (steps.readable (read t)) q).1

  pub reads-parts : reads t ≡ true → FormParts t
  unfolding reads
  reads-parts q = form-parts t (both (form_fits t) (steps.readable (read t)) q).0

  pub reads-form : reads t ≡ true → Form t
  reads-form q =
      let c = clauses-in (read t) (reads-readable q) in
      let p = reads-parts q in
      form_in p (ids_up c.distincts) (numbers_up c.ascending) (terms-fit p.counts.constraints (few-terms c.counts))
