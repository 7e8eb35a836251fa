-- Tables that stand still do after a suggestion's shift, and read as the steps' shift of what was read.
-- Assumes nothing.
use Rattle.std.specs.Prelude.{ℕ, ◌+◌, ◌≤◌, ◌<◌, ◌≡◌, Bool, false, Float}
use Rattle.std.proofs.Math.Path.{refl, sym, ap}
use Rattle.std.proofs.Common.{◌∙◌, subst, arith}
use Rattle.std.proofs.Math.Bool.{cond}
use mathlib.Core.List.{List}
use Rattle.std.proofs.Math.Option.{none, some}
use Rattle.std.proofs.Math.Dec.{eqb}
use Rattle.std.specs.Float.{nan}
use Rattle.std.proofs.Math.ListN.{get_or}
use Rattle.laws.specs.Lists.{tab, list_of, tab-ext, map-tab}
use Rattle.steps.specs.Number.{Mark, worse}
use Rattle.steps.specs.Row.{Row}
use Rattle.steps.specs.State.{Variable, Tag}
use Rattle.steps.specs.Work.{Work, with_tableau, with_rows, with_changes, marking}
use Rattle.steps.specs.Changes.{all_changed}
use Rattle.steps.specs.Substitute.{Substituted, rows_of, marks_of, noted_of}
use Rattle.steps.specs.Edit.{shift_of, shift_rows, shift_constants}
use Rattle.keeps.specs.Fits.{FitsW}
use Rattle.keeps.specs.Suggest.{shift_fits}
use Rattle.rows.specs.Marks.{mark_of, worse-unit}
use Rattle.rows.specs.declared.number.Wrote.{Wrote}
use Rattle.sparse.specs.Places.{next_id_at, symbol_count_at, row_count_at, cell_count_at, variable_count_at, should_clear_at, row_places_at, constants_at, old_values_at, objective_at, cutoff_at}
use Rattle.sparse.specs.Sparse.{Sparse, symbol_count, row_count, cell_count, variable_count, symbol_at, variable_of, basic_of, symbols_of, basics_of, objective_of, gone_of, read}
use Rattle.layout.specs.cells.Names.{last_place}
use Rattle.waist.specs.substituting.Notes.{noted}
use Rattle.waist.specs.substituting.Named.{NotesKept, named-kept}
use Rattle.waist.specs.substituting.NotesRead.{note_in, symbol-kept}
use Rattle.waist.specs.Working.{sparse, artificial_of, work_of, work-parts, lines_same, Sound, basic-symbol}
use Rattle.waist.specs.Dropping.{basic-by}
use Rattle.waist.specs.Owning.{Kept, owners-by}
use Rattle.waist.specs.Tags.{tag_at}
use Rattle.waist.specs.Standing.{Standing, Makes}
use Rattle.optimising.specs.declared.suggestion.shifting.Drag.{Drag}
use Rattle.optimising.specs.suggestion.Shifting.{Shifted, shifted, shift_rows_in}
use Rattle.optimising.specs.suggestion.Drags.{drag_of, shift_is}
use Rattle.optimising.specs.suggestion.ShiftRead.{gotten, sub, rows-tab, one-cells, Going, all_done, none_left}

module _ (art : Bool) (d : Drag) (t : Sparse) (so : Sound art t) (a : Mark) where
  -- what the code leaves
  abbrev s : Shifted
  s = shift_rows_in d (cell_count t) t.keys t.values (row_count t) (shifted (noted t.words t.bytes) t.reals a)

  abbrev u : Sparse
  u = sparse s.notes.words t.keys s.notes.bytes s.reals t.values

  abbrev r : ℕ
  r = row_count t

  going : Going art d t so a (1 + r) s
  going = all_done art d t so a

  abbrev rows : List Substituted
  rows = tab (sub art d t so a) 1 r

  kept : NotesKept (noted t.words t.bytes) s.notes
  kept = going.kept

  word : (q : ℕ) → (q ≡ should_clear_at → ⊥) → get_or u.words q 0 ≡ get_or t.words q 0
  word q b = kept.words q b

  symbol : (p : ℕ) → p ≤ last_place → symbol_at u p ≡ symbol_at t p
  unfolding symbol_at
  symbol p h = symbol-kept t kept p h

  narrow : symbol_count t ≤ last_place
  narrow = so.named.few-symbols

  symbol-count : symbol_count u ≡ symbol_count t
  symbol-count = word symbol_count_at (λ e. omega (arith, e))

  cell-count : cell_count u ≡ cell_count t
  cell-count = word cell_count_at (λ e. omega (arith, e))

  row_count_lem : row_count u ≡ row_count t
  row_count_lem = word row_count_at (λ e. omega (arith, e))

  symbols-are : symbols_of u ≡ symbols_of t
  unfolding symbols_of
  symbols-are = rw symbol-count (tab-ext (symbol_at u) (symbol_at t) 1 (symbol_count t) λ p b c. let f = narrow in symbol p (omega (arith, c, f)))

  byte : (i : ℕ) → i ≤ r → get_or u.bytes (row_places_at + i) 0 ≡ get_or t.bytes (row_places_at + i) 0
  byte i b = let f = so.few in kept.before (row_places_at + i) (omega (arith, b, f))

  real : (q : ℕ) → r < q → get_or u.reals q nan ≡ get_or t.reals q nan
  real q h = going.rest q (λ p b c e. omega (arith, c, e, h))

  row_by : {x y : Row} → x.constant ≡ y.constant → x.cells ≡ y.cells → x ≡ y
  row_by {x} {y} p q = whole
    where
      made : Float → List Float → Row
      made n z = record { constant = n; cells = z }

      whole : made x.constant x.cells ≡ made y.constant y.cells
      whole = rw (p, q) refl

  cells_are : (i : ℕ) → (basic_of u i).row.cells ≡ (basic_of t i).row.cells
  unfolding basic_of
  cells_are i = rw (symbol-count, cell-count) refl

  constant-at : (i : ℕ) → (basic_of u i).row.constant ≡ get_or u.reals (constants_at + i) nan
  unfolding basic_of
  constant-at i = refl

  old-constant : (i : ℕ) → (basic_of t i).row.constant ≡ get_or t.reals (constants_at + i) nan
  unfolding basic_of
  old-constant i = refl

  abbrev to : ℕ → Substituted
  to = sub art d t so a

  sub-symbol : (i : ℕ) → (to i).symbol ≡ symbol_at t (get_or t.bytes (row_places_at + i) 0)
  unfolding sub
  sub-symbol i = refl

  sub_cells : (i : ℕ) → (to i).written.row.cells ≡ (basic_of t i).row.cells
  unfolding sub
  sub_cells i = one-cells (gotten art d t so a i) (basic_of t i).row

  basic : (i : ℕ) → 1 ≤ i → i ≤ r → basic_of u i ≡ record { symbol = (to i).symbol; row = (to i).written.row }
  basic i b c =
      let l = so.rows i b c in
      let f = narrow in
      basic-by (basic-symbol u i ∙ ap (symbol_at u) (byte i c) ∙ symbol (get_or t.bytes (row_places_at + i) 0) (omega (arith, l, f)) ∙ sym (sub-symbol i))
      (row_by (constant-at i ∙ going.done i b (omega (arith, c))) (cells_are i ∙ sym (sub_cells i)))

  rows_are : basics_of u ≡ rows_of rows
  unfolding basics_of rows_of
  rows_are =
      rw row_count_lem
      (tab-ext (basic_of u) (λ i. record { symbol = (to i).symbol; row = (to i).written.row }) 1 r (λ i b c. basic i b (omega (arith, c)))
      ∙ sym (map-tab (λ (x : Substituted). record { symbol = x.symbol; row = x.written.row }) to 1 r))

  objective-is : objective_of u ≡ objective_of t
  unfolding objective_of
  objective-is = let f = so.few in rw symbol-count (tab-ext _ (λ p. get_or t.reals (objective_at + p) nan) 1 (symbol_count t) λ p b c. real (objective_at + p) (omega (arith, f)))

  cutoff-is : get_or u.reals cutoff_at nan ≡ get_or t.reals cutoff_at nan
  cutoff-is = let f = so.few in real cutoff_at (omega (arith, f))

  artificial-is : artificial_of art u ≡ artificial_of art t
  unfolding artificial_of
  artificial-is =
      rw row_count_lem
      (ap (λ (x : Row). cond art (some x) none) (row_by (constant-at (1 + r) ∙ real (constants_at + (1 + r)) (omega arith) ∙ sym (old-constant (1 + r))) (cells_are (1 + r))))

  variable : (v : ℕ) → v < variable_count t → variable_of u v ≡ variable_of (note_in s.notes t) v
  unfolding variable_of symbol_at
  variable v h = let f = so.few in rw (real (old_values_at + v) (omega (arith, f))) refl

  noted-is : (read u).changes ≡ (read (note_in s.notes t)).changes
  unfolding read list_of gone_of
  noted-is =
      let c : variable_count u ≡ variable_count t = word variable_count_at (λ e. omega (arith, e)) in
      ap (λ (x : List Variable). record { variables = x; gone = gone_of (note_in s.notes t); should_clear = eqb (get_or s.notes.words should_clear_at 0) 1 })
      (tab-ext (variable_of u) (variable_of (note_in s.notes t)) 0 (variable_count u) λ v b e. variable v (omega (arith, e, c)))

  changes-are : (read u).changes ≡ all_changed (noted_of rows) (read t).changes
  unfolding noted_of all_changed
  changes-are = noted-is ∙ (rw (none_left art d t so a) at going.notes)

  mark-is : s.mark ≡ worse a (marks_of rows)
  unfolding marks_of
  mark-is = sym (worse-unit s.mark) ∙ (rw (none_left art d t so a) at going.marks)

  abbrev after : Mark → ℕ → Work
  after b v = marking (marks_of rows) (with_changes (all_changed (noted_of rows) (read t).changes) (with_rows (rows_of rows) (work_of art b v t)))

  shift-reads : (v : ℕ) → work_of art s.mark v u ≡ after a v
  unfolding marking with_changes with_rows with_tableau
  shift-reads v =
      work-parts art s.mark v u
      ∙ rw (cutoff-is, symbols-are, word next_id_at (λ e. omega (arith, e)), rows_are, objective-is, changes-are, artificial-is, mark-is) refl
      ∙ sym (ap (λ (w : Work). marking (marks_of rows) (with_changes (all_changed (noted_of rows) (read t).changes) (with_rows (rows_of rows) w))) (work-parts art a v t))

  shift-sound : Sound art u
  shift-sound = record {
    named = named-kept kept so.named;
    held = rw (lines_same art t u row_count_lem, cell-count) so.held;
    few = rw row_count_lem so.few;
    rows = λ i b c. let c' : i ≤ r = rw row_count_lem at c in rw (byte i c', symbol-count) (so.rows i b c');
    up = λ i q b c e. let e' : q ≤ r = rw row_count_lem at e in rw (byte i (omega (arith, c, e')), byte q e') (so.up i q b c e');
    long = going.long;
  }

  shift-keeps : Kept t u
  shift-keeps = record {
    inside = λ h. rw (cell-count, symbol-count) h;
    owners = owners-by t u so.named (λ q b c e. word q b) (λ q b. kept.before q (omega (arith, b))) (λ q b c. kept.before q c) going.low;
  }

  -- the steps' shift, where each row gets what they give it
  module _ (tag : Tag) (delta : Float) (same : (v i : ℕ) → 1 ≤ i → i ≤ r → shift_of tag delta (work_of art a v t) (basic_of t i) ≡ gotten art d t so a i) where
    rows_step : (v : ℕ) → shift_rows (shift_of tag delta (work_of art a v t)) (work_of art a v t).tableau.rows ≡ rows
    unfolding work_of read basics_of
    rows_step v = rows-tab art d t so a (shift_of tag delta (work_of art a v t)) (same v) r 1 (omega arith) (omega arith)

    changes-at : (v : ℕ) → (work_of art a v t).changes ≡ (read t).changes
    unfolding work_of
    changes-at v = refl

    steps-are : (v : ℕ) → shift_constants tag delta (work_of art a v t) ≡ after a v
    unfolding shift_constants
    steps-are v = rw (rows_step v, changes-at v) refl

    pub shift-makes : Standing art a t → Makes art art a s.mark (shift_constants tag delta) t u
    shift-makes st =
        let reads : (v : ℕ) → work_of art s.mark v u ≡ shift_constants tag delta (work_of art a v t) = λ v. shift-reads v ∙ sym (steps-are v) in
        record {
          reads = reads;
          stands = record { sound = shift-sound; inside = shift-keeps.inside st.inside; owners = shift-keeps.owners st.owners; fits = subst FitsW (sym (reads 0)) (shift_fits tag delta (work_of art a 0 t) st.fits) };
        }

-- the calls of the code, over variables
pub shift-calls : (t : Sparse) (marker other : ℕ) (delta : Float) (before r : Wrote) {d : Drag} {ws bs : List ℕ} {rs : List Float} → Standing false (mark_of before) t → 1 ≤ marker → marker ≤ symbol_count t → other ≤ symbol_count t
    → d ≡ drag_of marker other delta t.words t.bytes → shifted (noted ws bs) rs (mark_of r) ≡ shift_rows_in d (cell_count t) t.keys t.values (row_count t) (shifted (noted t.words t.bytes) t.reals (mark_of before))
    → Makes false false (mark_of before) (mark_of r) (shift_constants (tag_at t marker other) delta) t (sparse ws t.keys bs rs t.values)
unfolding gotten
shift-calls t marker other delta before r {d} st low high high₁ e q =
    subst (λ (z : Shifted). Makes false false (mark_of before) z.mark (shift_constants (tag_at t marker other) delta) t (sparse z.notes.words t.keys z.notes.bytes z.reals t.values)) (sym q)
    (shift-makes false d t st.sound (mark_of before) (tag_at t marker other) delta (λ v i l h. rw e (shift_is false t st.sound (mark_of before) v marker other delta low high high₁ i l h)) st)
