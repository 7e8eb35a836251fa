-- The test that the code runs is the meaning of 18: `tested t ≡ reads t`.
-- Assumes nothing.
use Prim.Native.Nat.{ℕ, ◌+◌, ◌-◌, ◌<◌}
use Rattle.std.specs.Prelude.{◌≡◌, ◌||◌, length}
use Rattle.std.proofs.Math.Path.{refl, ap}
use Rattle.std.proofs.Common.{sym, ◌∙◌, arith}
use Rattle.std.proofs.Math.Bool.{true}
use mathlib.Core.List.{List, map}
use Rattle.std.proofs.Math.Dec.{leb, ltb}
use Rattle.std.specs.Float.{nan}
use Rattle.std.specs.Float.Ieee.{is_nan}
use Rattle.std.proofs.Math.ListN.{get_or}
use borrow.Author.Tests.{le-leb, lt-ltb}
use Rattle.laws.specs.Lists.{list_of, length-tab}
use Rattle.layout.specs.Rooms.{both}
use Rattle.layout.proofs.Copied.{length-list_of}
use Rattle.steps.specs.Number.{is_finite, cutoff_fits}
use Rattle.steps.specs.Symbol.{is_external}
use Rattle.steps.specs.State.{Variable, Constraint, Edit}
use Rattle.steps.specs.Readable as steps
use Rattle.keeps.specs.Lists.{All}
use Rattle.keeps.specs.Clauses.{and3, and4, Clauses, clauses-in, clauses-out}
use Rattle.layout.specs.Layout.{term_room}
use Rattle.rows.specs.places.Finding.{at_all, Apart}
use Rattle.rows.specs.places.Listed.{join, same, ascend-list}
use Rattle.sparse.specs.Places.{next_id_at, ids_at, variable_numbers_at, constraint_numbers_at, gone_numbers_at, row_places_at, variable_places_at, constraint_markers_at, constraint_others_at, term_counts_at, edit_variables_at, edit_markers_at, edit_others_at, terms_at, cutoff_at, most_constraints, most_variables, most_gone}
use Rattle.sparse.specs.Lookup.{Ascends}
use Rattle.sparse.specs.Sparse.{Sparse, symbol_count, row_count, variable_count, constraint_count, edit_count, gone_count, gone_of, number_at, terms_from, basic_of, basics_of, variable_of, read}
use Rattle.sparse.specs.Form.{index_at, At}
use Rattle.sparse_test.specs.Stretch.{ascend_in, between_in, ascends, between, in_between, most, in-most}
use Rattle.sparse_test.specs.Reads.{live_in, named_in, reads}
use Rattle.sparse_test.specs.Views.{owners, asked, tag-count, numbers-are, constraint-numbers-are, edit-numbers-are}
use Rattle.sparse_test.specs.Meaning.{FormParts, form-joined, live_at, named-at, few_terms, few-in, few-out, reads-readable, reads-parts}
use Rattle.sparse_test.specs.Tested.{edits_up, tested}
use Rattle.sparse_test.specs.Parts.{Parts, parts, joined}
use Rattle.sparse_test.specs.Injective.{each-list, list-each, both-lists, first-list, second-list, distinct_apart}
use Rattle.sparse_test.specs.Owners.{IdsUp, Owns, once-owns, owns-once, owns-distinct, Placed, placed, all_placed}
use Rattle.sparse_test.specs.Kept.{kind-near}
use Rattle.sparse_test.specs.Uses.{NumbersUp, number_is, uses-counted, counted-uses}
use Rattle.sparse_test.specs.Records.{all-ext, externals-are, constraint-kinds-are, markers-are, groups-are, gone-ascend, not_told, returned-are, edit-kinds-are, olds-are, constraints-finite-are, edits-finite-are}
use Rattle.sparse_test.specs.Tableau.{ids-in, ordered, orderly, RowsLive, rows-up, rows-live, Clear, no-basic, basic-no}
use Rattle.sparse_test.specs.Cells.{cells-form, cells-clear, cells-finite, finite-cells, form-keys, form-costs, form-values}

-- ---- what both tests say alike

module _ (t : Sparse) where
  abbrev k : ℕ
  k = symbol_count t

  abbrev byte : ℕ → ℕ
  byte j = get_or t.bytes j 0

  variable-count : length (read t).changes.variables ≡ variable_count t
  unfolding read
  variable-count = length-list_of (variable_count t) (variable_of t)

  gone-count : length (read t).changes.gone ≡ gone_count t
  unfolding read gone_of
  gone-count = length-list_of (gone_count t) (λ j. get_or t.words (gone_numbers_at + j) 0)

  row_count_lem : length (read t).tableau.rows ≡ row_count t
  unfolding read basics_of
  row_count_lem = length-tab (basic_of t) 1 (row_count t)

  variables-up : steps.ascend (steps.numbers (read t)) ≡ ascend_in t.words variable_numbers_at (variable_count t)
  unfolding ascend_in
  variables-up = ap steps.ascend (numbers-are t) ∙ ascend-list (variable_count t) (λ j. get_or t.words (variable_numbers_at + j) 0)

  constraints-up : steps.ascend (map (λ (c : Constraint). c.number) (read t).constraints) ≡ ascend_in t.words constraint_numbers_at (constraint_count t)
  unfolding ascend_in
  constraints-up = ap steps.ascend (constraint-numbers-are t) ∙ ascend-list (constraint_count t) (λ j. get_or t.words (constraint_numbers_at + j) 0)

  edits-up : steps.ascend (map (λ (e : Edit). e.variable) (read t).edits) ≡ edits_up t.words t.bytes (variable_count t) (edit_count t)
  unfolding edits_up
  edits-up =
      ap steps.ascend (edit-numbers-are t)
      ∙ ascend-list (edit_count t) (λ j. number_at t (byte (edit_variables_at + j)))
      ∙ all-ext _ _ 1 (edit_count t) λ j a b. rw (number_is t (byte (edit_variables_at + (j - 1))), number_is t (byte (edit_variables_at + j))) refl

  live-rows : between_in t.bytes (row_places_at + 1) (row_count t) 1 (symbol_count t + 1) ≡ true → RowsLive t
  live-rows h j u =
      let q = between t.bytes (row_places_at + 1) (row_count t) 1 (symbol_count t + 1) h j u in
      let b = q.1 in
      (q.0, omega (arith, b))

  live-in : (a n : ℕ) → ((j : ℕ) → j < n → At t (byte (a + j))) → live_in t a n ≡ true
  unfolding live_in
  live-in a n f = in_between t.bytes a n 1 (symbol_count t + 1) λ j u. let l = f j u in let b = l.1 in (l.0, omega (arith, b))

  abbrev Named : ℕ → Type 0
  Named p = index_at t p < variable_count t

  named-in : (a n : ℕ) → ((j : ℕ) → j < n → Named (byte (a + j))) → named_in t a n ≡ true
  unfolding named_in
  named-in a n f = at_all _ 0 n λ j u h. lt-ltb _ _ (f j h)

  numbers-rise : ascend_in t.words variable_numbers_at (variable_count t) ≡ true → NumbersUp t
  numbers-rise h = ascends t.words variable_numbers_at (variable_count t) h

  places-apart : steps.distinct (owners t) ≡ true → Apart (λ j. byte (variable_places_at + j)) (variable_count t)
  places-apart h = distinct_apart (λ j. byte (variable_places_at + j)) (variable_count t) _ h

  cutoff-is : steps.cutoff_in_range (read t) ≡ cutoff_fits (get_or t.reals cutoff_at nan)
  unfolding steps.cutoff_in_range read
  cutoff-is = refl

  -- ---- the code's test gives the state's

  module _ (p : Parts t) where
    up : IdsUp t
    up = ids-in t p.ids_up

    owning : Owns t × All (At t) (owners t) × (steps.distinct (owners t) ≡ true)
    owning = once-owns t up p.owned

    used : (steps.uses_counted (read t) ≡ true) × All Named (asked t)
    used = uses-counted t (numbers-rise p.numbers_up) (places-apart owning.2) p.counts.variables p.uses

    live : RowsLive t
    live = live-rows p.rows

    form : FormParts t
    unfolding live_in
    form =
        let l = placed t owning.1 in
        let ts : List ℕ = list_of (terms_from t (constraint_count t)) (λ j. byte (terms_at + j)) in
        let es : List ℕ = list_of (edit_count t) (λ i. byte (edit_variables_at + i)) in
        record {
          counts = p.counts;
          kinds = p.kinds;
          rows = p.rows;
          cells = cells-form t p.keys p.values;
          numbers = p.numbers;
          owners = live-in variable_places_at (variable_count t) l.variables;
          changed = p.changed;
          constraints = p.constraints;
          markers = live-in constraint_markers_at (constraint_count t) l.markers;
          others = in-most t.bytes constraint_others_at (constraint_count t) k l.others;
          named = named-in terms_at (terms_from t (constraint_count t)) (list-each Named (λ j. byte (terms_at + j)) (terms_from t (constraint_count t)) (first-list Named ts es used.1));
          edited = named-in edit_variables_at (edit_count t) (list-each Named (λ i. byte (edit_variables_at + i)) (edit_count t) (second-list Named ts es used.1));
          pluses = live-in edit_markers_at (edit_count t) l.pluses;
          minuses = in-most t.bytes edit_others_at (edit_count t) k l.minuses;
          gone = p.gone;
          relations = p.relations;
        }

    counts-clause : steps.counts_in_range (read t) ≡ true
    unfolding steps.counts_in_range
    counts-clause =
        let c = p.counts in
        join (join (ap (λ (n : ℕ). leb n most_variables) variable-count ∙ le-leb _ _ c.variables) (ap (λ (n : ℕ). leb n most_constraints) (tag-count t) ∙ le-leb _ _ c.tags)) (few-out t (most t.bytes term_counts_at (constraint_count t) term_room p.term_counts))

    ascending-clause : steps.numbers_ascend (read t) ≡ true
    unfolding steps.numbers_ascend
    ascending-clause = join (join (variables-up ∙ p.numbers_up) (constraints-up ∙ p.constraints_up)) (edits-up ∙ p.edits)

    distincts-clause : steps.symbols_distinct (read t) ≡ true
    unfolding steps.symbols_distinct
    distincts-clause = join (join (ordered t p.ids_up p.ids).0 (rows-up t up live ∙ p.rows_up)) owning.0.0

    below-clause : steps.ids_below_next (read t) ≡ true
    unfolding steps.ids_below_next
    below-clause = join next (ordered t p.ids_up p.ids).1
      where
        next : ltb 0 (read t).tableau.next_id ≡ true
        next = unfold read in lt-ltb _ _ p.counts.above

    rows-clause : steps.rows_in_range (read t) ≡ true
    unfolding steps.rows_in_range
    rows-clause = rw (row_count_lem, tag-count t) (le-leb _ _ p.counts.rows)

    owners-clause : steps.symbols_owned (read t) ≡ true
    unfolding steps.symbols_owned
    owners-clause = join (join owning.0.1 owning.0.2) (rows-live t up live)

    finite-clause : steps.numbers_finite (read t) ≡ true
    unfolding steps.numbers_finite
    finite-clause =
        join (join (join (cells-finite t p.values p.constants p.objective) (olds-are t ∙ p.olds)) (constraints-finite-are t ∙ join (join p.strengths p.own_constants) p.coefficients)) (edits-finite-are t ∙ join p.edit_strengths p.suggestions)

    kinds-clause : steps.kinds_fit (read t) ≡ true
    unfolding steps.kinds_fit
    kinds-clause =
        let l = placed t owning.1 in
        join (join (join (externals-are t (λ i h. kind-near t p.kinds _ (l.variables i h)) ∙ p.externals) (constraint-kinds-are t ∙ p.tags)) (markers-are t ∙ p.markers)) (edit-kinds-are t ∙ join p.errors p.edit_tags)

    gone-clause : steps.gone_fits (read t) ≡ true
    unfolding steps.gone_fits
    gone-clause = join (join (ap (λ (n : ℕ). leb n most_gone) gone-count ∙ le-leb _ _ p.counts.gone) (gone-ascend t ∙ p.gone_up)) (returned-are t ∙ p.returned)

    tested_reads : reads t ≡ true
    unfolding reads
    tested_reads =
        let s = p.counts.symbols in
        join (form-joined t form) (clauses-out (read t) (record {
          counts = counts-clause;
          ascending = ascending-clause;
          distincts = distincts-clause;
          below = below-clause;
          rows = rows-clause;
          cells = no-basic t up live (cells-clear t (omega (arith, s)) live p.keys p.costs);
          owners = owners-clause;
          uses = used.0;
          finite = finite-clause;
          kinds = kinds-clause;
          cutoff = cutoff-is ∙ p.cutoff;
          groups = groups-are t ∙ p.groups;
          gone = gone-clause;
        }))

  -- ---- and the state's gives the code's

  module _ (q : reads t ≡ true) where
    f : FormParts t
    f = reads-parts t q

    c : Clauses (read t)
    c = clauses-in (read t) (reads-readable t q)

    ordered_of : (steps.ascend_from 0 (steps.live_ids (read t)) ≡ true) × (steps.ascend (steps.basic_ids (read t)) ≡ true) × (steps.distinct (steps.owned (read t)) ≡ true)
    unfolding steps.symbols_distinct
    ordered_of = and3 (steps.ascend_from 0 (steps.live_ids (read t))) (steps.ascend (steps.basic_ids (read t))) (steps.distinct (steps.owned (read t))) c.distincts

    below_of : steps.all (λ n. ltb n (read t).tableau.next_id) (steps.live_ids (read t)) ≡ true
    unfolding steps.ids_below_next
    below_of = (both (ltb 0 (read t).tableau.next_id) (steps.all (λ n. ltb n (read t).tableau.next_id) (steps.live_ids (read t))) c.below).1

    ids-of : (ascend_in t.words (ids_at + 1) k ≡ true) × (between_in t.words (ids_at + 1) k 1 (get_or t.words next_id_at 0) ≡ true)
    ids-of = orderly t (ordered_of.0, below_of)

    ups-of : (steps.ascend (steps.numbers (read t)) ≡ true) × (steps.ascend (map (λ (c : Constraint). c.number) (read t).constraints) ≡ true) × (steps.ascend (map (λ (e : Edit). e.variable) (read t).edits) ≡ true)
    unfolding steps.numbers_ascend
    ups-of = and3 (steps.ascend (steps.numbers (read t))) (steps.ascend (map (λ (c : Constraint). c.number) (read t).constraints)) (steps.ascend (map (λ (e : Edit). e.variable) (read t).edits)) c.ascending

    up_of : IdsUp t
    up_of = ids-in t ids-of.0

    rows_of : between_in t.bytes (row_places_at + 1) (row_count t) 1 (symbol_count t + 1) ≡ true
    unfolding live_in
    rows_of = f.rows

    live_of : RowsLive t
    live_of = live-rows rows_of

    owned-of : Owns t
    unfolding steps.symbols_owned
    owned-of =
        let o = and3 (steps.all_in (steps.live (read t)) (steps.owned (read t))) (steps.all_in (steps.owned (read t)) (steps.live (read t))) (steps.all_in (steps.basics (read t)) (steps.live (read t))) c.owners in
        (ordered_of.2, o.0, o.1)

    placed_of : Placed t
    placed_of =
        record {
          variables = live_at t variable_places_at (variable_count t) f.owners;
          markers = live_at t constraint_markers_at (constraint_count t) f.markers;
          others = most t.bytes constraint_others_at (constraint_count t) k f.others;
          pluses = live_at t edit_markers_at (edit_count t) f.pluses;
          minuses = most t.bytes edit_others_at (edit_count t) k f.minuses;
        }

    named-of : All Named (asked t)
    named-of =
        both-lists Named (list_of (terms_from t (constraint_count t)) (λ j. byte (terms_at + j))) (list_of (edit_count t) (λ i. byte (edit_variables_at + i)))
        (each-list Named (λ j. byte (terms_at + j)) (terms_from t (constraint_count t)) (named-at t terms_at (terms_from t (constraint_count t)) f.named))
        (each-list Named (λ i. byte (edit_variables_at + i)) (edit_count t) (named-at t edit_variables_at (edit_count t) f.edited))

    -- no two variables' symbols stand at one place
    pub reads-apart : Apart (λ j. byte (variable_places_at + j)) (variable_count t)
    reads-apart = places-apart (owns-distinct t up_of (all_placed t placed_of) owned-of)

    -- "variable and constraint numbers ascend"
    pub reads-constraints : Ascends t.words constraint_numbers_at (constraint_count t)
    reads-constraints = ascends t.words constraint_numbers_at (constraint_count t) (sym constraints-up ∙ ups-of.1)

    few-of : steps.all (few_terms t) (read t).constraints ≡ true
    unfolding steps.counts_in_range
    few-of = (and3 (leb (length (read t).changes.variables) most_variables) (leb (length (steps.tags (read t))) most_constraints) (steps.all (few_terms t) (read t).constraints) c.counts).2

    finite-of : (steps.tableau_finite (read t) ≡ true) × (steps.all (λ (v : Variable). is_finite v.old || is_nan v.old) (read t).changes.variables ≡ true) × (steps.all steps.constraint_finite (read t).constraints ≡ true) × (steps.all steps.edit_finite (read t).edits ≡ true)
    unfolding steps.numbers_finite
    finite-of = and4 (steps.tableau_finite (read t)) (steps.all (λ (v : Variable). is_finite v.old || is_nan v.old) (read t).changes.variables) (steps.all steps.constraint_finite (read t).constraints) (steps.all steps.edit_finite (read t).edits) c.finite

    kinds-of : (steps.all (λ (v : Variable). is_external v.symbol) (read t).changes.variables ≡ true) × (steps.all (λ (c : Constraint). steps.tag_kinds c.strength c.tag) (read t).constraints ≡ true)
        × (steps.all (λ (c : Constraint). steps.marker_fits c.comparison c.tag.marker) (read t).constraints ≡ true) × (steps.all steps.edit_kinds (read t).edits ≡ true)
    unfolding steps.kinds_fit
    kinds-of = and4 (steps.all (λ (v : Variable). is_external v.symbol) (read t).changes.variables) (steps.all (λ (c : Constraint). steps.tag_kinds c.strength c.tag) (read t).constraints) (steps.all (λ (c : Constraint). steps.marker_fits c.comparison c.tag.marker) (read t).constraints) (steps.all steps.edit_kinds (read t).edits) c.kinds

    gone_of_lem : (leb (length (read t).changes.gone) most_gone ≡ true) × (steps.ascend (read t).changes.gone ≡ true) × (steps.all (not_told t) (read t).changes.variables ≡ true)
    unfolding steps.gone_fits
    gone_of_lem = and3 (leb (length (read t).changes.gone) most_gone) (steps.ascend (read t).changes.gone) (steps.all (not_told t) (read t).changes.variables) c.gone

    reads-tested : tested t ≡ true
    reads-tested =
        let l = all_placed t placed_of in
        let n = finite-of in
        let s = kinds-of in
        let u = ups-of in
        let numbers = sym variables-up ∙ u.0 in
        let apart = places-apart (owns-distinct t up_of l owned-of) in
        let clear : Clear t = basic-no t up_of live_of c.cells in
        let cells = finite-cells t n.0 in
        let cf = both _ _ (sym (constraints-finite-are t) ∙ n.2) in
        let cs = both _ _ cf.0 in
        let ef = both _ _ (sym (edits-finite-are t) ∙ n.3) in
        let ek = both _ _ (sym (edit-kinds-are t) ∙ s.3) in
        joined t (record {
          counts = f.counts;
          ids_up = ids-of.0;
          ids = ids-of.1;
          numbers_up = numbers;
          numbers = f.numbers;
          constraints_up = sym constraints-up ∙ u.1;
          constraints = f.constraints;
          groups = sym (groups-are t) ∙ c.groups;
          gone_up = sym (gone-ascend t) ∙ gone_of_lem.1;
          gone = f.gone;
          kinds = f.kinds;
          changed = f.changed;
          term_counts = in-most t.bytes term_counts_at (constraint_count t) term_room (few-in t few-of);
          rows_up = sym (rows-up t up_of live_of) ∙ ordered_of.1;
          rows = rows_of;
          relations = f.relations;
          owned = owns-once t up_of l owned-of;
          externals = sym (externals-are t (λ i h. kind-near t f.kinds _ (placed_of.variables i h))) ∙ s.0;
          tags = sym (constraint-kinds-are t) ∙ s.1;
          markers = sym (markers-are t) ∙ s.2;
          errors = ek.0;
          edit_tags = ek.1;
          constants = cells.0;
          olds = sym (olds-are t) ∙ n.1;
          objective = cells.1;
          strengths = cs.0;
          edit_strengths = ef.0;
          suggestions = ef.1;
          coefficients = cf.1;
          own_constants = cs.1;
          cutoff = sym cutoff-is ∙ c.cutoff;
          edits = sym edits-up ∙ u.2;
          uses = counted-uses t (numbers-rise numbers) apart f.counts.variables named-of c.uses;
          costs = form-costs t f.cells clear;
          keys = form-keys t f.cells clear;
          values = form-values t f.cells clear cells;
          returned = sym (returned-are t) ∙ gone_of_lem.2;
        })

-- 18 is given exactly if the tables have not the sparse form, or the state that is read is not one
pub tested-is : (t : Sparse) → tested t ≡ reads t
tested-is t = same (tested t) (reads t) (λ h. tested_reads t (parts t h)) (λ h. reads-tested t h)
