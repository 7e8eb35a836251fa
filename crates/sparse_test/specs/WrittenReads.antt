-- A readable state that fits, with numbers that a u32 holds, written into tables: they read as it, and pass the test.
-- Assumes nothing.
use Rattle.std.specs.Prelude.{ℕ, ◌+◌, ◌-◌, ◌≤◌, ◌<◌, ◌≡◌, true, List}
use Rattle.std.proofs.Math.Path.{sym}
use Rattle.std.proofs.Common.{ap, ◌∙◌}
use Rattle.std.proofs.Math.Option.{Option, none, some}
use native.Mathlib.Omega.{arith}
use Rattle.std.proofs.Math.ListN.{length, get_or, length-map}
use borrow.Author.Tests.{le-leb, lt-ltb}
use Rattle.layout.proofs.Copied.{bit-small, comparison-small}
use Rattle.steps.specs.Symbol.{Kind, External, Slack, Error, Dummy, Symbol}
use Rattle.steps.specs.State.{Basic, Variable, Constraint, State}
use Rattle.steps.specs.Readable.{kind_code, readable}
use Rattle.keeps.specs.Reads.{Reads}
use Rattle.keeps.specs.Tested.{reads_in}
use Rattle.layout.specs.cells.Names.{cell_room}
use Rattle.layout.specs.cells.Cells.{ascends_of, present_of}
use Rattle.layout.specs.cells.Reads.{ascending-lt}
use Rattle.rows.specs.places.Finding.{at_all, place_in, place-live}
use Rattle.rows.specs.places.Listed.{join}
use Rattle.sparse.specs.Places.{kinds_at, row_places_at, variable_numbers_at, constraint_numbers_at, gone_numbers_at, variable_places_at, changed_at, constraint_markers_at, constraint_others_at, edit_variables_at, edit_markers_at, edit_others_at, terms_at, relations_at}
use Rattle.sparse.specs.Sparse.{Sparse, symbol_count, row_count, cell_count, variable_count, constraint_count, edit_count, gone_count, terms_from}
use Rattle.sparse.specs.Concat.{sum-ext, sum-in, concat-length}
use Rattle.sparse.specs.Repack.{Held}
use Rattle.sparse.proofs.HeldLaid.{rows-held, rows-size}
use Rattle.sparse.specs.Write.{no_symbol, no_basic, no_variable, no_term, no_constraint, no_edit, place_of, other_place, index_of, number_place, all_terms, cells_of, laid_of, heading_of, write}
use Rattle.sparse.specs.Fits.{Lengths, Live, LiveOther, Fits}
use Rattle.sparse.specs.Elements.{heading-back, number-back, constraint-number, gone-back, kind-laid, row-place, variable-place, changed-back, marker-place, other_place_lem, count-back, edit-variable, plus-place, minus-place, term-place, relation-laid}
use Rattle.sparse.proofs.ReadBack.{read-write}
use Rattle.sparse.specs.Form.{index_at, At}
use Rattle.sparse_test.specs.Stretch.{in_between, in-most}
use Rattle.sparse_test.specs.Reads.{greatest_u32, live_in, named_in, key_fits, cells_fit, reads}
use Rattle.sparse_test.specs.Meaning.{Counted, FormParts, form-joined}

-- the state's numbers are those that a u32 holds
pub record Narrow (s : State) : Type 0 where
  pub next : s.tableau.next_id ≤ greatest_u32
  pub variables : (j : ℕ) → j < length s.changes.variables → (get_or s.changes.variables j no_variable).number ≤ greatest_u32
  pub constraints : (j : ℕ) → j < length s.constraints → (get_or s.constraints j no_constraint).number ≤ greatest_u32
  pub gone : (j : ℕ) → j < length s.changes.gone → get_or s.changes.gone j 0 ≤ greatest_u32

kind-small : (k : Kind) → kind_code k ≤ 3
unfolding kind_code
kind-small External = omega arith
kind-small Slack = omega arith
kind-small Error = omega arith
kind-small Dummy = omega arith

module _ (s : State) (t : Sparse) (fits : Fits s) (len : Lengths t) (narrow : Narrow s) (good : readable s ≡ true) where
  abbrev u : Sparse
  u = write s t

  abbrev xs : List Symbol
  xs = s.tableau.symbols

  abbrev vs : List Variable
  vs = s.changes.variables

  abbrev size : ℕ
  size = (laid_of s.tableau t).size

  head : (j : ℕ) → j < 10 → get_or u.words j 0 ≡ get_or (heading_of s size) j 0
  head = heading-back s t fits len

  facts : Reads s
  facts = reads_in s good

  symbols-are : symbol_count u ≡ length xs
  unfolding heading_of
  symbols-are = head 1 (omega arith)

  rows_are : row_count u ≡ length s.tableau.rows
  unfolding heading_of
  rows_are = head 2 (omega arith)

  cells_are : cell_count u ≡ size
  unfolding heading_of
  cells_are = head 3 (omega arith)

  variables-are : variable_count u ≡ length vs
  unfolding heading_of
  variables-are = head 4 (omega arith)

  constraints-are : constraint_count u ≡ length s.constraints
  unfolding heading_of
  constraints-are = head 5 (omega arith)

  edits-are : edit_count u ≡ length s.edits
  unfolding heading_of
  edits-are = head 6 (omega arith)

  gone-are : gone_count u ≡ length s.changes.gone
  unfolding heading_of
  gone-are = head 9 (omega arith)

  -- ---- the cells

  held : Held u.keys u.values size (length xs) (length s.tableau.rows)
  unfolding write laid_of
  held =
      let k = fits.symbols in
      let n : length (cells_of s.tableau) ≡ length s.tableau.rows = length-map s.tableau.rows (λ (r : Basic). r.row.cells) in
      rw n at (rows-held (length xs) (cells_of s.tableau) t.keys t.values (omega (arith, k)) (rw len.1 fits.room) (len.4 ∙ sym len.1))

  size_fits : size ≤ cell_room
  unfolding laid_of
  size_fits =
      let k = fits.symbols in
      let a = rows-size (length xs) (cells_of s.tableau) t.keys t.values (omega (arith, k)) (rw len.1 fits.room) (len.4 ∙ sym len.1) in
      omega (arith, a, len.1)

  cells_fit_lem : cells_fit u ≡ true
  unfolding cells_fit key_fits ascends_of present_of
  cells_fit_lem =
      rw (cells_are, symbols-are, rows_are) (join (join
      (at_all _ 1 size λ j a b. lt-ltb _ _ (ascending-lt u.keys size (j - 1) j held.up (omega (arith, a)) b))
      (at_all _ 0 size λ j a b. held.present j b))
      (at_all _ 0 size λ j a b. let r = held.rows j b in let p = held.places j b in join (join (le-leb _ _ r.0) (le-leb _ _ r.1)) (join (le-leb _ _ p.0) (le-leb _ _ p.1))))

  -- ---- counts

  counts-fit : Counted u
  unfolding heading_of
  counts-fit =
      let r = facts in
      let c = facts.few-tags in
      let w = facts.few-rows in
      let p = facts.fits.pos in
      record {
        above = rw (head 0 (omega arith)) p;
        next = rw (head 0 (omega arith)) narrow.next;
        symbols = rw symbols-are fits.symbols;
        cells = rw cells_are size_fits;
        variables = rw variables-are fits.variables;
        clear = rw (head 7 (omega arith)) (bit-small s.changes.should_clear);
        whole = rw (head 8 (omega arith)) (bit-small s.whole);
        gone = rw gone-are fits.gone;
        constraints = rw constraints-are fits.constraints;
        edits = rw edits-are fits.edits;
        tags = rw (constraints-are, edits-are) c;
        rows = rw (constraints-are, edits-are, rows_are) w;
      }

  -- ---- places

  at_place : (x : Symbol) → Live xs x → At u (place_of xs x)
  at_place x l = (l.0, rw symbols-are l.1)

  at_other : (o : Option Symbol) → LiveOther xs o → other_place xs o ≤ symbol_count u
  unfolding other_place
  at_other none l = omega arith
  at_other (some x) l = rw symbols-are l.1

  lives : (a n : ℕ) → ((j : ℕ) → j < n → At u (get_or u.bytes (a + j) 0)) → live_in u a n ≡ true
  unfolding live_in
  lives a n f = in_between u.bytes a n 1 (symbol_count u + 1) λ j h. let l = f j h in let b = l.1 in (l.0, omega (arith, b))

  -- the place of a named variable's symbol is a variable's
  index_live : (n : ℕ) → index_of vs n < length vs → index_at u (number_place xs vs n) < variable_count u
  unfolding index_at number_place
  index_live n h =
      unfold place_in in place-live (λ j. get_or u.bytes (variable_places_at + j) 0) (variable_count u) (place_of xs (get_or vs (index_of vs n) no_variable).symbol) (index_of vs n) (rw variables-are h) (variable-place s t fits len (index_of vs n) h)

  nameds : (a n : ℕ) → ((j : ℕ) → j < n → index_at u (get_or u.bytes (a + j) 0) < variable_count u) → named_in u a n ≡ true
  unfolding named_in
  nameds a n f = at_all _ 0 n λ j a b. lt-ltb _ _ (f j b)

  terms-count : terms_from u (constraint_count u) ≡ length (all_terms s)
  unfolding terms_from
  terms-count =
      rw constraints-are (sum-in _ (length s.constraints) ∙ sum-ext _ _ 0 (length s.constraints) (λ j h. count-back s t fits len j (omega (arith, h))) ∙ sym (concat-length (λ (c : Constraint). c.terms) s.constraints no_constraint))

  form : FormParts u
  form =
      record {
        counts = counts-fit;
        kinds = rw symbols-are (in-most u.bytes (kinds_at + 1) (length xs) 3 λ j h. rw (kind-laid s t fits len j h) (kind-small (get_or xs j no_symbol).kind));
        rows = rw rows_are (lives (row_places_at + 1) (length s.tableau.rows) λ j h. rw (row-place s t fits len j h) (at_place (get_or s.tableau.rows j no_basic).symbol (fits.basics j h)));
        cells = cells_fit_lem;
        numbers = rw variables-are (in-most u.words variable_numbers_at (length vs) greatest_u32 λ j h. rw (number-back s t fits len j h) (narrow.variables j h));
        owners = rw variables-are (lives variable_places_at (length vs) λ j h. rw (variable-place s t fits len j h) (at_place (get_or vs j no_variable).symbol (fits.owners j h)));
        changed = rw variables-are (in-most u.bytes changed_at (length vs) 1 λ j h. rw (changed-back s t fits len j h) (bit-small (get_or vs j no_variable).changed));
        constraints = rw constraints-are (in-most u.words constraint_numbers_at (length s.constraints) greatest_u32 λ j h. rw (constraint-number s t fits len j h) (narrow.constraints j h));
        markers = rw constraints-are (lives constraint_markers_at (length s.constraints) λ j h. rw (marker-place s t fits len j h) (at_place (get_or s.constraints j no_constraint).tag.marker (fits.markers j h)));
        others = rw constraints-are (in-most u.bytes constraint_others_at (length s.constraints) (symbol_count u) λ j h. rw (other_place_lem s t fits len j h) (at_other (get_or s.constraints j no_constraint).tag.other (fits.others j h)));
        named = rw terms-count (nameds terms_at (length (all_terms s)) λ j h. rw (term-place s t fits len j h) (index_live (get_or (all_terms s) j no_term).variable (fits.named j h)));
        edited = rw edits-are (nameds edit_variables_at (length s.edits) λ j h. rw (edit-variable s t fits len j h) (index_live (get_or s.edits j no_edit).variable (fits.edited j h)));
        pluses = rw edits-are (lives edit_markers_at (length s.edits) λ j h. rw (plus-place s t fits len j h) (at_place (get_or s.edits j no_edit).tag.marker (fits.pluses j h)));
        minuses = rw edits-are (in-most u.bytes edit_others_at (length s.edits) (symbol_count u) λ j h. rw (minus-place s t fits len j h) (at_other (get_or s.edits j no_edit).tag.other (fits.minuses j h)));
        gone = rw gone-are (in-most u.words gone_numbers_at (length s.changes.gone) greatest_u32 λ j h. rw (gone-back s t fits len j h) (narrow.gone j h));
        relations = rw constraints-are (in-most u.bytes relations_at (length s.constraints) 2 λ j h. rw (relation-laid s t fits len j h) (comparison-small (get_or s.constraints j no_constraint).comparison));
      }

  pub written-reads : reads u ≡ true
  unfolding reads
  written-reads = join (form-joined u form) (ap readable (read-write s t fits len) ∙ good)
