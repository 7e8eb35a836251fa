-- What every accepted call does at its end: the mark is stored, and no record is counted yet. With the records that then come over the room reads as the steps' `finish`.
-- Assumes nothing.
use Rattle.std.specs.Prelude.{ℕ, ◌+◌, ◌≤◌, ◌<◌, ◌≡◌, Bool, true, false, ◌&&◌, cond, List, eqb, Float, length, get_or, set}
use Rattle.std.proofs.Math.Path.{refl}
use Rattle.std.proofs.Common.{◌∙◌, arith}
use Rattle.std.specs.Float.{nan}
use Rattle.std.specs.Float.Ieee.{ne}
use Rattle.std.proofs.Math.ListN.{length-set}
use Rattle.std.proofs.Math.Seq.{get_or-set_same, get_or-set_other}
use Rattle.laws.specs.Lists.{sum_from, sum_in}
use Rattle.steps.specs.Number.{zero64, all_whole, not_whole, not_finite, whole_if, says_whole}
use Rattle.steps.specs.Symbol.{absent}
use Rattle.steps.specs.State.{Constraint, Edit}
use Rattle.steps.specs.Calls.{finish}
use Rattle.steps.specs.Readable.{readable}
use Rattle.keeps.specs.Tested.{reads_in}
use Rattle.layout.specs.Layout.{bit_of}
use Rattle.layout.proofs.Back.{bit-back}
use Rattle.layout.proofs.Copied.{bit-small, length-list_of}
use Rattle.layout.specs.cells.Names.{cell_room}
use Rattle.layout.specs.cells.Cells.{Present}
use Rattle.waist.specs.merging.Merge.{Placed}
use Rattle.sparse.specs.Places.{most_gone, symbol_count_at, row_count_at, cell_count_at, variable_count_at, constraint_count_at, edit_count_at, should_clear_at, whole_at, ids_at, variable_numbers_at, words_size}
use Rattle.sparse.specs.Sparse.{Sparse, symbol_count, row_count, cell_count, variable_count, constraint_count, gone_count, gone_of, terms_from, other_at, read}
use Rattle.sparse.specs.Form.{Form}
use Rattle.sparse.specs.Repack as packed
use Rattle.sparse_test.specs.Reads.{reads}
use Rattle.waist.specs.substituting.Held.{held-few}
use Rattle.rows.specs.declared.number.Wrote.{Wrote}
use Rattle.rows.specs.Marks.{mark_of}
use Rattle.waist.specs.Working.{work_of, lines_of}
use Rattle.waist.specs.Standing.{Standing}
use Rattle.lending.specs.Entered.{SameNames, count_same, past_same, symbol-same, tableau-same, changes-same}
use Rattle.waist.specs.Tags.{tag_at}
use Rattle.solver.specs.Bringing.{brought, Comes}

-- yes if all that was written is finite, whole and within its bounds
unfoldable pub says_yes : Wrote → Bool
says_yes w = w.finite && w.whole

pub says-yes : (w : Wrote) → says_yes w ≡ says_whole (mark_of w)
unfolding says_yes says_whole mark_of whole_if
says-yes w = by w.finite w.whole
  where
    by : (a b : Bool) → a && b ≡ says_whole (cond a (cond b all_whole not_whole) not_finite)
    by true true = refl
    by true false = refl
    by false b = refl

unfoldable pub closed_words : Wrote → List ℕ → List ℕ
closed_words wrote w = set (set (set w whole_at (bit_of (says_yes wrote))) constraint_count_at 0) edit_count_at 0

pub words-closed : (wrote : Wrote) (w : List ℕ) {b : Bool} {k : ℕ} → b ≡ says_yes wrote → k ≡ bit_of b → set (set (set w whole_at k) constraint_count_at 0) edit_count_at 0 ≡ closed_words wrote w
unfolding closed_words
words-closed wrote w b c = rw (c, b) refl

abbrev pub closed : Wrote → Sparse → Sparse
closed wrote u = record { words = closed_words wrote u.words; keys = u.keys; bytes = u.bytes; reals = u.reals; values = u.values }

absent-ne : (x : Float) → absent x ≡ false → ne x zero64 ≡ true
unfolding ne absent
absent-ne x h = rw h refl

gone-count : (t : Sparse) → length (read t).changes.gone ≡ gone_count t
unfolding read gone_of
gone-count t = length-list_of (gone_count t) _

-- "At most 32 gone entries wait."
gone-few : (t : Sparse) (cs : List Constraint) (es : List Edit) → readable (brought cs es t) ≡ true → gone_count t ≤ most_gone
gone-few t cs es good = omega (arith, (reads_in (brought cs es t) good).waits.few, gone-count t)

whole_is : (t : Sparse) → (read t).whole ≡ eqb (get_or t.words whole_at 0) 1
unfolding read
whole_is t = refl

module _ (wrote : Wrote) (u : Sparse) (st : Standing false (mark_of wrote) u) where
  abbrev w' : List ℕ
  w' = closed_words wrote u.words

  abbrev w₁ : List ℕ
  w₁ = set u.words whole_at (bit_of (says_yes wrote))

  abbrev w₂ : List ℕ
  w₂ = set w₁ constraint_count_at 0

  long : length u.words ≡ words_size
  long = st.sound.named.long

  other : (m : ℕ) → (m ≡ whole_at → ⊥) → (m ≡ constraint_count_at → ⊥) → (m ≡ edit_count_at → ⊥) → get_or w' m 0 ≡ get_or u.words m 0
  unfolding closed_words
  other m a b c = get_or-set_other w₂ edit_count_at m 0 0 c ∙ get_or-set_other w₁ constraint_count_at m 0 0 b ∙ get_or-set_other u.words whole_at m (bit_of (says_yes wrote)) 0 a

  flag : get_or w' whole_at 0 ≡ bit_of (says_yes wrote)
  unfolding closed_words
  flag = get_or-set_other w₂ edit_count_at whole_at 0 0 (omega arith) ∙ get_or-set_other w₁ constraint_count_at whole_at 0 0 (omega arith) ∙ get_or-set_same u.words whole_at (bit_of (says_yes wrote)) 0 (omega (arith, long))

  no-constraints : get_or w' constraint_count_at 0 ≡ 0
  unfolding closed_words
  no-constraints = get_or-set_other w₂ edit_count_at constraint_count_at 0 0 (omega arith) ∙ get_or-set_same w₁ constraint_count_at 0 0 (omega (arith, long, length-set u.words whole_at (bit_of (says_yes wrote))))

  no-edits : get_or w' edit_count_at 0 ≡ 0
  unfolding closed_words
  no-edits = get_or-set_same w₂ edit_count_at 0 0 (omega (arith, long, length-set u.words whole_at (bit_of (says_yes wrote)), length-set w₁ constraint_count_at 0))

  same : SameNames u.words w'
  same m a b c d = other m d a b

  clear : get_or w' should_clear_at 0 ≡ get_or u.words should_clear_at 0
  clear = other should_clear_at (omega arith) (omega arith) (omega arith)

  tableau : (read (closed wrote u)).tableau ≡ (read u).tableau
  tableau = tableau-same u w' same

  changes : (read (closed wrote u)).changes ≡ (read u).changes
  changes = changes-same u w' same clear

  -- the state that the call stores, with these constraints and edits
  pub closed-finish : (v : ℕ) (cs : List Constraint) (es : List Edit) → brought cs es (closed wrote u) ≡ finish (work_of false (mark_of wrote) v u) cs es
  unfolding finish work_of
  closed-finish v cs es = rw (tableau, changes, whole_is (closed wrote u), flag, bit-back (says_yes wrote), says-yes wrote) refl

  no-terms : terms_from (closed wrote u) (constraint_count (closed wrote u)) ≡ 0
  unfolding terms_from
  no-terms = rw no-constraints (unfold sum_in sum_from in refl)

  held : packed.Held u.keys u.values (cell_count u) (symbol_count u) (row_count u)
  unfolding lines_of Present Placed
  held =
      let h = st.sound.held in
      record {
        up = h.up;
        rows = λ j l. let a = h.low j l in let b = h.high j l in (omega (arith, a), omega (arith, b));
        places = λ j l. ((h.placed j l).0, st.inside j l);
        present = λ j l. absent-ne (get_or u.values j nan) (h.present j l);
      }

  few-cells : cell_count u ≤ cell_room
  unfolding lines_of
  few-cells = let a = held-few (row_count u) (cell_count u) u.keys u.values st.sound.held in let b = st.sound.few in omega (arith, a, b)

  closed-form : gone_count (closed wrote u) ≤ most_gone → Form (closed wrote u)
  closed-form few-gone =
      let n : (m : ℕ) → m < constraint_count_at → get_or w' m 0 ≡ get_or u.words m 0 = count_same u w' same in
      let g : (m : ℕ) → whole_at < m → get_or w' m 0 ≡ get_or u.words m 0 = past_same u w' same in
      let k₁ : symbol_count (closed wrote u) ≡ symbol_count u = n symbol_count_at (omega arith) in
      let k₂ : row_count (closed wrote u) ≡ row_count u = n row_count_at (omega arith) in
      let k₃ : cell_count (closed wrote u) ≡ cell_count u = n cell_count_at (omega arith) in
      let k₄ : variable_count (closed wrote u) ≡ variable_count u = n variable_count_at (omega arith) in
      let s = st.sound in
      let few = s.few in
      record {
        counts =
            record {
              symbols = rw k₁ s.named.few-symbols;
              rows = omega (arith, few, k₂);
              cells = rw k₃ few-cells;
              variables = rw k₄ s.named.few-variables;
              constraints = omega (arith, no-constraints);
              edits = omega (arith, no-edits);
              terms = omega (arith, no-terms);
              gone = few-gone;
            };
        clear = rw clear st.owners.clear;
        whole = rw flag (bit-small (says_yes wrote));
        ids = λ i j a b c. rw (g (ids_at + i) (omega arith), g (ids_at + j) (omega arith)) (s.named.up i j a b (omega (arith, c, k₁)));
        kinds = λ p a b. st.owners.kinds p a (omega (arith, b, k₁));
        rows = λ i a b. let l = s.rows i a (omega (arith, b, k₂)) in (l.0, rw k₁ l.1);
        cells = rw (k₁, k₂, k₃) held;
        numbers = λ i j a b. rw (g (variable_numbers_at + i) (omega arith), g (variable_numbers_at + j) (omega arith)) (st.owners.up i j a (omega (arith, b, k₄)));
        owners = λ i a. let l = s.named.variables i (omega (arith, a, k₄)) in (l.0, rw k₁ l.1);
        changed = λ i a. st.owners.changed i (omega (arith, a, k₄));
        markers = λ i a. absurd (omega (arith, a, no-constraints));
        others = λ i a. absurd (omega (arith, a, no-constraints));
        relations = λ i a. absurd (omega (arith, a, no-constraints));
        edited = λ i a. absurd (omega (arith, a, no-edits));
        pluses = λ i a. absurd (omega (arith, a, no-edits));
        minuses = λ i a. absurd (omega (arith, a, no-edits));
        named = λ j a. absurd (omega (arith, a, no-terms));
      }

  closed-long : length w' ≡ words_size
  unfolding closed_words
  closed-long = length-set w₂ edit_count_at 0 ∙ length-set w₁ constraint_count_at 0 ∙ length-set u.words whole_at (bit_of (says_yes wrote)) ∙ long

  -- the records that come over make a state with it
  pub closed-comes : (t : Sparse) → reads t ≡ true → (cs : List Constraint) (es : List Edit) → readable (brought cs es (closed wrote u)) ≡ true → Comes t (closed wrote u)
  closed-comes t r cs es again =
      let k : variable_count (closed wrote u) ≡ variable_count u = count_same u w' same variable_count_at (omega arith) in
      let h = st.sound.held in
      record {
        lent = r;
        form = closed-form (gone-few (closed wrote u) cs es again);
        lengths = (closed-long, h.wide, st.sound.named.wide, st.sound.long, h.wides);
        apart = λ i j a b. st.owners.apart i j a (omega (arith, b, k));
      }

  pub closed-word : (m : ℕ) → (m ≡ whole_at → ⊥) → (m ≡ constraint_count_at → ⊥) → (m ≡ edit_count_at → ⊥) → get_or (closed wrote u).words m 0 ≡ get_or u.words m 0
  closed-word = other

  pub closed-mark : get_or (closed wrote u).words whole_at 0 ≡ bit_of (says_yes wrote)
  closed-mark = flag

  pub closed-symbols : symbol_count (closed wrote u) ≡ symbol_count u
  closed-symbols = count_same u w' same symbol_count_at (omega arith)

  pub closed-tag : (m o : ℕ) → tag_at (closed wrote u) m o ≡ tag_at u m o
  unfolding tag_at other_at
  closed-tag m o = rw (symbol-same u w' same m, symbol-same u w' same o) refl
