-- The start of a call: a room that holds the tableau and the variables of tables that read as a state is one on which the steps may work.
-- Assumes nothing.
use Prim.Native.Nat.{ℕ, zero, suc, ◌+◌, ◌*◌, ◌-◌, ◌≤◌, ◌<◌}
use Rattle.std.specs.Prelude.{◌≡◌, true, false, List, [], Float, length}
use Rattle.std.proofs.Math.Path.{refl}
use Rattle.std.proofs.Common.{sym, ap, ◌∙◌, arith, eqb-true}
use Rattle.std.proofs.Math.Dec.{eqb}
use Rattle.std.specs.Float.{nan}
use Rattle.std.specs.Float.Ieee.{ne}
use Rattle.std.proofs.Math.ListN.{get_or}
use Rattle.std.proofs.lemmas.Bool.{not-true}
use Rattle.laws.specs.Lists.{list_of, length-tab}
use Rattle.steps.specs.Number.{zero64, Mark, whole_if, is_finite}
use Rattle.steps.specs.Symbol.{absent}
use Rattle.steps.specs.State.{Term, Tableau, Changes}
use Rattle.steps.specs.Tests.{new_variables}
use Rattle.steps.specs.Calls.{begin}
use Rattle.keeps.specs.Reads.{Reads, used_by}
use Rattle.keeps.specs.Tested.{reads_in}
use Rattle.keeps.specs.Good.{Good, tags_by, begin-good}
use Rattle.layout.specs.Layout.{term_room}
use Rattle.layout.specs.cells.Cells.{Present}
use Rattle.waist.specs.merging.Merge.{Placed}
use Rattle.rows.specs.places.Finding.{all-at}
use Rattle.sparse.specs.Places.{most_variables, most_constraints, whole_at, next_id_at, ids_at, variable_numbers_at, constraint_numbers_at, kinds_at, row_places_at, variable_places_at, row_count_at, symbol_count_at, variable_count_at}
use Rattle.sparse.specs.Lookup.{Ascends}
use Rattle.sparse.specs.Sparse.{Sparse, symbol_count, row_count, cell_count, variable_count, constraint_count, edit_count, symbol_at, other_at, read}
use Rattle.sparse.specs.Widths.{symbols-read, rows-read}
use Rattle.sparse.specs.Form.{Counts}
use Rattle.sparse.specs.Copy.{heading_end}
use Rattle.sparse_test.specs.Stretch.{ascends}
use Rattle.sparse_test.specs.Meaning.{reads-form, reads-readable}
use Rattle.sparse_test.specs.Tested.{kind_at, externals_in}
use Rattle.sparse_test.specs.Parts.{Parts, parts}
use Rattle.sparse_test.specs.Meant.{tested-is, reads-apart, reads-constraints}
use Rattle.sparse_test.specs.zeros.Fitting.{few-symbols}
use Rattle.waist.specs.substituting.Held.{Held}
use Rattle.rows.specs.declared.number.Wrote.{Wrote}
use Rattle.rows.specs.Marks.{mark_of}
use Rattle.waist.specs.Working.{artificial_of, work_of, lines_of}
use Rattle.waist.specs.Standing.{Standing}
use Rattle.lending.specs.Entered.{bare_words, Entered, bare-same, past_same}
use Rattle.changes.specs.declared.terms.Pack.{Pack}
use Rattle.changes.specs.terms.Terms.{kept_of, terms_of}
use Rattle.changes.specs.terms.Kept.{most-le, terms-length, kept-terms}
use Rattle.refusals.specs.Refusals as refusals
use Rattle.refusals.specs.New.{new_is}
use Rattle.refusals.specs.Passed.{Room}
use Rattle.addition.specs.creation.Going.{new_in}
use Rattle.addition.specs.creation.Created.{Opening, Spare}
use Rattle.waist.specs.Tags.{tag_at}
use Rattle.solver.specs.Few.{uses-spare}

-- the mark that a call's steps begin with is the stored one
abbrev pub stored_mark : List ℕ → Mark
stored_mark w = whole_if (eqb (get_or w whole_at 0) 1)

whole_is : (t : Sparse) → (read t).whole ≡ eqb (get_or t.words whole_at 0) 1
unfolding read
whole_is t = refl

-- ---- the lengths of what is read are the counts

pub variables-count : (t : Sparse) → length (read t).changes.variables ≡ variable_count t
unfolding read list_of
variables-count t = length-tab _ 0 (variable_count t)

pub constraints-count : (t : Sparse) → length (read t).constraints ≡ constraint_count t
unfolding read list_of
constraints-count t = length-tab _ 0 (constraint_count t)

pub edits-count : (t : Sparse) → length (read t).edits ≡ edit_count t
unfolding read list_of
edits-count t = length-tab _ 0 (edit_count t)

pub symbols-count : (t : Sparse) → length (read t).tableau.symbols ≡ symbol_count t
unfolding read
symbols-count t = symbols-read t

pub rows-count : (t : Sparse) → length (read t).tableau.rows ≡ row_count t
unfolding read
rows-count t = rows-read t

next-is : (t : Sparse) → (read t).tableau.next_id ≡ get_or t.words next_id_at 0
unfolding read
next-is t = refl

cutoff-is : (t : Sparse) → (read t).tableau.cutoff ≡ refusals.cutoff_in t.reals
unfolding read
cutoff-is t = refl

-- ---- a held row has no absent cell

ne-absent : (x : Float) → ne x zero64 ≡ true → absent x ≡ false
unfolding ne absent
ne-absent x h = not-true _ h

-- ---- the steps' tables

module _ (t w : Sparse) (en : Entered t w) where
  pub reads-at-start : Reads (read t)
  reads-at-start = reads_in (read t) (reads-readable t en.reads)

  pub counts-at-start : Counts t
  counts-at-start = (reads-form t en.reads).counts

  -- "variable and constraint numbers ascend": what a lookup by halving needs
  pub numbers-at-start : Ascends t.words variable_numbers_at (variable_count t)
  numbers-at-start = (reads-form t en.reads).numbers

  pub constraints-at-start : Ascends t.words constraint_numbers_at (constraint_count t)
  constraints-at-start = reads-constraints t en.reads

  tests : Parts t
  tests = parts t (tested-is t ∙ en.reads)

  pub begin-is : work_of false (stored_mark t.words) 0 w ≡ begin (read t)
  unfolding work_of artificial_of begin whole_if
  begin-is = rw (en.tableau, en.changes, whole_is t) refl

  -- the code holds the mark as what was written
  pub begun-is : (before : Wrote) → mark_of before ≡ stored_mark t.words → work_of false (mark_of before) 0 w ≡ begin (read t)
  begun-is before e = rw e begin-is

  pub good-at-start : Good (λ n. tags_by n (read t).constraints (read t).edits) (λ n. used_by n (read t).constraints (read t).edits) (work_of false (stored_mark t.words) 0 w)
  good-at-start = rw begin-is (begin-good (read t) reads-at-start)

  pub symbols-same : symbol_count w ≡ symbol_count t
  symbols-same = sym (symbols-count w) ∙ ap (λ (b : Tableau). length b.symbols) en.tableau ∙ symbols-count t

  pub rows_same : row_count w ≡ row_count t
  rows_same = sym (rows-count w) ∙ ap (λ (b : Tableau). length b.rows) en.tableau ∙ rows-count t

  pub variables-same : variable_count w ≡ variable_count t
  variables-same = sym (variables-count w) ∙ ap (λ (b : Changes). length b.variables) en.changes ∙ variables-count t

  pub next-same : get_or w.words next_id_at 0 ≡ get_or t.words next_id_at 0
  next-same = sym (next-is w) ∙ ap (λ (b : Tableau). b.next_id) en.tableau ∙ next-is t

  cutoff-same : refusals.cutoff_in w.reals ≡ refusals.cutoff_in t.reals
  cutoff-same = sym (cutoff-is w) ∙ ap (λ (b : Tableau). b.cutoff) en.tableau ∙ cutoff-is t

  -- "rows are no more than constraints"
  pub rows-at-start : row_count t ≤ constraint_count t + edit_count t
  rows-at-start = tests.counts.rows

  pub tags-at-start : constraint_count t + edit_count t ≤ most_constraints
  tags-at-start = tests.counts.tags

  pub symbols-at-start : symbol_count t ≤ variable_count t + 2 * (constraint_count t + edit_count t)
  symbols-at-start = omega (arith, few-symbols (read t) reads-at-start, variables-count t, constraints-count t, edits-count t, symbols-count t)

  -- ---- what the copy agrees in

  abbrev was : (m : ℕ) → m < heading_end → get_or w.words m 0 ≡ get_or (bare_words t.words) m 0
  was = en.agrees.heading

  row-place : (i : ℕ) → 1 ≤ i → i ≤ row_count w → get_or w.bytes (row_places_at + i) 0 ≡ get_or t.bytes (row_places_at + i) 0
  row-place i a b = let e = was row_count_at (omega arith) in en.agrees.row_places i a (omega (arith, b, e))

  variable-place : (v : ℕ) → v < variable_count w → get_or w.bytes (variable_places_at + v) 0 ≡ get_or t.bytes (variable_places_at + v) 0
  variable-place v h = let e = was variable_count_at (omega arith) in en.agrees.owners v (omega (arith, h, e))

  kind-place : (p : ℕ) → 1 ≤ p → p ≤ symbol_count w → get_or w.bytes (kinds_at + p) 0 ≡ get_or t.bytes (kinds_at + p) 0
  kind-place p a b = let e = was symbol_count_at (omega arith) in en.agrees.kinds p a (omega (arith, b, e))

  id-place : (p : ℕ) → 1 ≤ p → p ≤ symbol_count w → get_or w.words (ids_at + p) 0 ≡ get_or t.words (ids_at + p) 0
  id-place p a b =
      let e = was symbol_count_at (omega arith) in
      en.agrees.ids p a (omega (arith, b, e)) ∙ past_same t (bare_words t.words) (bare-same t en.long) (ids_at + p) (omega arith)

  -- a symbol keeps its place
  pub symbol-kept : (p : ℕ) → 1 ≤ p → p ≤ symbol_count w → symbol_at w p ≡ symbol_at t p
  unfolding symbol_at
  symbol-kept p a b = rw (id-place p a b, kind-place p a b) refl

  pub other-kept : (p : ℕ) → p ≤ symbol_count w → other_at w p ≡ other_at t p
  unfolding other_at
  other-kept zero b = refl
  other-kept (suc p) b = rw (symbol-kept (suc p) (omega arith) b) refl

  pub tag-kept : (m o : ℕ) → 1 ≤ m → m ≤ symbol_count w → o ≤ symbol_count w → tag_at w m o ≡ tag_at t m o
  unfolding tag_at
  tag-kept m o a b c = rw (symbol-kept m a b, other-kept o c) refl

  rows-up : (i q : ℕ) → 1 ≤ i → i < q → q ≤ row_count w → get_or w.bytes (row_places_at + i) 0 < get_or w.bytes (row_places_at + q) 0
  rows-up i q a b c =
      let o : row_places_at + 1 + (i - 1) ≡ row_places_at + i = omega (arith, a) in
      let p : row_places_at + 1 + (q - 1) ≡ row_places_at + q = omega (arith, a, b) in
      let u = rw (o, p) at (ascends t.bytes (row_places_at + 1) (row_count t) tests.rows_up (i - 1) (q - 1) (omega (arith, a, b)) (omega (arith, a, b, c, rows_same))) in
      rw (row-place i a (omega (arith, b, c)), row-place q (omega (arith, a, b)) c) u

  external : (v : ℕ) → v < variable_count w → get_or w.bytes (kinds_at + get_or w.bytes (variable_places_at + v) 0) 0 ≡ 0
  external v h =
      let l = en.form.owners v h in
      let k = kind-place (get_or w.bytes (variable_places_at + v) 0) l.0 l.1 in
      k ∙ ap (λ (p : ℕ). get_or t.bytes (kinds_at + p) 0) (variable-place v h) ∙ eqb-true (get_or t.bytes (kinds_at + get_or t.bytes (variable_places_at + v) 0) 0) 0 (at v (omega (arith, h, variables-same)))
    where
      at : (v : ℕ) → v < variable_count t → eqb (get_or t.bytes (kinds_at + get_or t.bytes (variable_places_at + v) 0) 0) 0 ≡ true
      at v h = unfold externals_in kind_at in all-at (λ i. eqb (get_or t.bytes (kinds_at + get_or t.bytes (variable_places_at + i) 0) 0) 0) 0 (variable_count t) tests.externals v (omega arith) h

  pub apart-at-start : (i j : ℕ) → i < j → j < variable_count w → get_or w.bytes (variable_places_at + i) 0 ≡ get_or w.bytes (variable_places_at + j) 0 → ⊥
  apart-at-start i j a b e =
      let q = reads-apart t en.reads i j (omega (arith, a, b, variables-same)) (omega (arith, b, variables-same)) (sym (variable-place i (omega (arith, a, b))) ∙ e ∙ variable-place j b) in
      omega (arith, a, q)

  held : Held (lines_of false w) (cell_count w) w.keys w.values
  unfolding lines_of Present Placed
  held =
      let c = en.form.cells in
      let n = en.form.counts.symbols in
      record {
        up = c.up;
        present = λ j h. ne-absent (get_or w.values j nan) (c.present j h);
        placed = λ j h. let p = c.places j h in let b = p.1 in (p.0, omega (arith, b, n));
        low = λ j h. let r = c.rows j h in let a = r.0 in omega (arith, a);
        high = λ j h. let r = c.rows j h in let b = r.1 in omega (arith, b);
        wide = en.lengths.1;
        wides = en.lengths.4;
      }

  pub standing-at-start : Standing false (stored_mark t.words) w
  standing-at-start =
      let f = en.form in
      record {
        sound =
            record {
              named =
                  record {
                    long = en.lengths.0;
                    wide = en.lengths.2;
                    few-symbols = f.counts.symbols;
                    few-variables = f.counts.variables;
                    up = f.ids;
                    variables = f.owners;
                  };
              held = held;
              few = omega (arith, rows-at-start, tags-at-start, rows_same);
              rows = f.rows;
              up = rows-up;
              long = en.lengths.3;
            };
        inside = λ j h. (f.cells.places j h).1;
        owners = record { up = f.numbers; external = external; apart = apart-at-start; kinds = f.kinds; changed = f.changed; clear = f.clear };
        fits = good-at-start.fits;
      }

  -- ---- with the room that the tests of Add and of Add edit leave

  new-same : (terms : List Term) → new_in terms w ≡ new_in terms t
  new-same terms = rw (cutoff-same, en.changes) refl

  pub opening-at-start : (terms : List Term) (constant : Float) → is_finite constant ≡ true → length terms ≤ term_room
      → constraint_count t + edit_count t < most_constraints → variable_count t + new_in terms t ≤ most_variables → get_or t.words next_id_at 0 ≤ 4_294_900_000
      → Opening (stored_mark t.words) terms constant w
  opening-at-start terms constant finite few room variables numbers =
      record {
        standing = standing-at-start;
        K = λ n. tags_by n (read t).constraints (read t).edits;
        U = λ n. used_by n (read t).constraints (read t).edits;
        good = good-at-start;
        finite = finite;
        few-terms = few;
        few-rows = omega (arith, rows-at-start, rows_same);
        few-variables = omega (arith, variables-same, new-same terms, variables);
        few-symbols = omega (arith, symbols-at-start, symbols-same, new-same terms, variables, room);
        few-ids = omega (arith, numbers, next-same);
      }

  pub spare-at-start : Spare w
  spare-at-start n = rw en.changes (uses-spare (read t) reads-at-start n)

  -- room for the terms of a pack
  pub pack-opens : (p : Pack) (constant : Float) → is_finite constant ≡ true → Room (refusals.cutoff_in t.reals) t.words p → Opening (stored_mark t.words) (terms_of p) constant w
  pack-opens p constant finite room =
      let cutoff : Float = refusals.cutoff_in t.reals in
      let new : new_in (terms_of p) t ≡ refusals.new_in t.words (variable_count t) (kept_of cutoff p) = ap (λ (l : List Term). length (new_variables (read t).changes.variables [] l)) (sym (kept-terms cutoff p)) ∙ new_is t (kept_of cutoff p) in
      opening-at-start (terms_of p) constant finite (omega (arith, terms-length p, most-le p.count)) room.0 (rw new room.1) room.2
