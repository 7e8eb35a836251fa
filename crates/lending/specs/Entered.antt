-- The room entered: it holds the tableau and the variables of the lent tables, and no stored record.
-- Assumes nothing.
use Rattle.std.specs.Prelude.{ℕ, ◌+◌, ◌<◌, ◌≡◌, true, List, eqb, Float, length, set, replicate}
use Rattle.std.proofs.Math.Path.{refl}
use Rattle.std.proofs.Common.{ap, ◌∙◌, arith}
use Rattle.std.proofs.Math.ListN.{get_or, length-set}
use Rattle.std.proofs.Math.Seq.{get_or-set_same, get_or-set_other}
use Rattle.laws.specs.Lists.{list_of, tab-ext, sum_from, sum_in}
use Rattle.steps.specs.Number.{zero64}
use Rattle.steps.specs.State.{State}
use Rattle.layout.specs.cells.Names.{cell_room}
use Rattle.sparse.specs.Places.{next_id_at, symbol_count_at, row_count_at, cell_count_at, variable_count_at, constraint_count_at, edit_count_at, should_clear_at, whole_at, gone_count_at, gone_numbers_at, ids_at, variable_numbers_at, variable_uses_at, row_places_at, variable_places_at, words_size, bytes_size, reals_size}
use Rattle.sparse.specs.Sparse.{Sparse, symbol_count, row_count, cell_count, variable_count, constraint_count, edit_count, gone_count, gone_of, symbol_at, variable_of, terms_from, basic_of, symbols_of, basics_of, objective_of, read}
use Rattle.sparse.specs.Fits.{Lengths}
use Rattle.sparse.specs.Form.{index_at, Form}
use Rattle.sparse.specs.Copy.{put_over}
use Rattle.sparse.specs.Agree.{Agree}
use Rattle.sparse.proofs.Copied.{copy-agrees, copy-reads, copy-form, copy-lengths}
use Rattle.lending.specs.sparse_copy.Over.{cleared}
use Rattle.sparse_test.specs.Reads.{reads}
use Rattle.sparse_test.specs.Tested.{term_count}
use Rattle.sparse_test.specs.Meaning.{reads-form}

-- ---- the room cleared, of its types' lengths

unfoldable pub zero_room : Sparse
zero_room = record { words = replicate words_size 0; keys = replicate cell_room 0; bytes = replicate bytes_size 0; reals = replicate reals_size zero64; values = replicate cell_room zero64 }

pub zero_is : {w k b : List ℕ} {r v : List Float} → w ≡ replicate words_size 0 → k ≡ replicate cell_room 0 → b ≡ replicate bytes_size 0 → r ≡ replicate reals_size zero64 → v ≡ replicate cell_room zero64
    → record { words = w; keys = k; bytes = b; reals = r; values = v } ≡ zero_room
unfolding zero_room
zero_is a b c d e = rw (a, b, c, d, e) refl

-- the room is cleared at its own length
pub cleared-is : (w : Sparse) → Lengths w → zero_room ≡ cleared w
unfolding zero_room cleared
cleared-is w l = rw (l.0, l.1, l.2, l.3, l.4) refl

-- how many terms all constraints have
pub terms-in : (t : Sparse) → term_count t.bytes (constraint_count t) ≡ terms_from t (constraint_count t)
unfolding term_count terms_from
terms-in t = refl

-- ---- the records left out

unfoldable pub bare_words : List ℕ → List ℕ
bare_words w = set (set w constraint_count_at 0) edit_count_at 0

-- the tables with their records left out
abbrev pub bare : Sparse → Sparse
bare t = record { words = bare_words t.words; keys = t.keys; bytes = t.bytes; reals = t.reals; values = t.values }

pub record Entered (t w : Sparse) : Type 0 where
  pub reads : reads t ≡ true
  pub long : length t.words ≡ words_size
  pub form : Form w
  pub lengths : Lengths w
  pub agrees : Agree (bare t) w
  pub tableau : (read w).tableau ≡ (read t).tableau
  pub changes : (read w).changes ≡ (read t).changes

changes-parts : (t : Sparse) → (read t).changes ≡ record { variables = (read t).changes.variables; gone = gone_of t; should_clear = eqb (get_or t.words should_clear_at 0) 1 }
unfolding read
changes-parts t = refl

-- ---- the counts of records and the flags are no part of the tableau, nor of the variables

-- alike but for them
abbrev pub SameNames : List ℕ → List ℕ → Type 0
SameNames w w' = (m : ℕ) → (m ≡ constraint_count_at → ⊥) → (m ≡ edit_count_at → ⊥) → (m ≡ should_clear_at → ⊥) → (m ≡ whole_at → ⊥) → get_or w' m 0 ≡ get_or w m 0

module _ (t : Sparse) (w' : List ℕ) (same : SameNames t.words w') where
  abbrev u : Sparse
  u = record { words = w'; keys = t.keys; bytes = t.bytes; reals = t.reals; values = t.values }

  pub count_same : (m : ℕ) → m < constraint_count_at → get_or w' m 0 ≡ get_or t.words m 0
  count_same m h = same m (λ e. omega (arith, h, e)) (λ e. omega (arith, h, e)) (λ e. omega (arith, h, e)) (λ e. omega (arith, h, e))

  pub past_same : (m : ℕ) → whole_at < m → get_or w' m 0 ≡ get_or t.words m 0
  past_same m h = same m (λ e. omega (arith, h, e)) (λ e. omega (arith, h, e)) (λ e. omega (arith, h, e)) (λ e. omega (arith, h, e))

  pub symbol-same : (p : ℕ) → symbol_at u p ≡ symbol_at t p
  unfolding symbol_at
  symbol-same p = rw (past_same (ids_at + p) (omega arith)) refl

  basic-same : (i : ℕ) → basic_of u i ≡ basic_of t i
  unfolding basic_of
  basic-same i = rw (symbol-same (get_or t.bytes (row_places_at + i) 0), count_same cell_count_at (omega arith), count_same symbol_count_at (omega arith)) refl

  pub variable-same : (i : ℕ) → variable_of u i ≡ variable_of t i
  unfolding variable_of
  variable-same i = rw (past_same (variable_numbers_at + i) (omega arith), past_same (variable_uses_at + i) (omega arith), symbol-same (get_or t.bytes (variable_places_at + i) 0)) refl

  pub tableau-same : (read u).tableau ≡ (read t).tableau
  unfolding read symbols_of basics_of objective_of
  tableau-same =
      rw (
        count_same next_id_at (omega arith),
        count_same symbol_count_at (omega arith),
        count_same row_count_at (omega arith),
        tab-ext (symbol_at u) (symbol_at t) 1 (symbol_count t) (λ p a b. symbol-same p),
        tab-ext (basic_of u) (basic_of t) 1 (row_count t) (λ p a b. basic-same p),
      ) refl

  pub variables-same : (read u).changes.variables ≡ (read t).changes.variables
  unfolding read list_of
  variables-same = rw (count_same variable_count_at (omega arith), tab-ext (variable_of u) (variable_of t) 0 (variable_count t) (λ p a b. variable-same p)) refl

  pub gone_same : gone_of u ≡ gone_of t
  unfolding gone_of list_of
  gone_same = rw (past_same gone_count_at (omega arith), tab-ext (λ j. get_or w' (gone_numbers_at + j) 0) (λ j. get_or t.words (gone_numbers_at + j) 0) 0 (gone_count t) (λ p a b. past_same (gone_numbers_at + p) (omega arith))) refl

  pub changes-same : get_or w' should_clear_at 0 ≡ get_or t.words should_clear_at 0 → (read u).changes ≡ (read t).changes
  changes-same e = rw (changes-parts u, changes-parts t, variables-same, gone_same, e) refl

  index_same : (p : ℕ) → index_at u p ≡ index_at t p
  unfolding index_at
  index_same p = rw (count_same variable_count_at (omega arith)) refl

module _ (t : Sparse) (len : length t.words ≡ words_size) where
  bare-other : (m : ℕ) → (m ≡ constraint_count_at → ⊥) → (m ≡ edit_count_at → ⊥) → get_or (bare_words t.words) m 0 ≡ get_or t.words m 0
  unfolding bare_words
  bare-other m a b = get_or-set_other (set t.words constraint_count_at 0) edit_count_at m 0 0 b ∙ get_or-set_other t.words constraint_count_at m 0 0 a

  pub bare-constraints : constraint_count (bare t) ≡ 0
  unfolding bare_words
  bare-constraints = get_or-set_other (set t.words constraint_count_at 0) edit_count_at constraint_count_at 0 0 (omega arith) ∙ get_or-set_same t.words constraint_count_at 0 0 (omega (arith, len))

  pub bare-edits : edit_count (bare t) ≡ 0
  unfolding bare_words
  bare-edits = get_or-set_same (set t.words constraint_count_at 0) edit_count_at 0 0 (omega (arith, len, length-set t.words constraint_count_at 0))

  pub bare-same : SameNames t.words (bare_words t.words)
  bare-same m a b c d = bare-other m a b

  bare-clear : get_or (bare_words t.words) should_clear_at 0 ≡ get_or t.words should_clear_at 0
  bare-clear = bare-other should_clear_at (omega arith) (omega arith)

  bare-whole : get_or (bare_words t.words) whole_at 0 ≡ get_or t.words whole_at 0
  bare-whole = bare-other whole_at (omega arith) (omega arith)

  pub bare-terms : terms_from (bare t) (constraint_count (bare t)) ≡ 0
  unfolding terms_from
  bare-terms = rw bare-constraints (unfold sum_in sum_from in refl)

  pub bare-tableau : (read (bare t)).tableau ≡ (read t).tableau
  bare-tableau = tableau-same t (bare_words t.words) bare-same

  pub bare-changes : (read (bare t)).changes ≡ (read t).changes
  bare-changes = changes-same t (bare_words t.words) bare-same bare-clear

  pub bare-form : Form t → Form (bare t)
  bare-form f =
      let n : (m : ℕ) → m < constraint_count_at → get_or (bare_words t.words) m 0 ≡ get_or t.words m 0 = count_same t (bare_words t.words) bare-same in
      let g : (m : ℕ) → whole_at < m → get_or (bare_words t.words) m 0 ≡ get_or t.words m 0 = past_same t (bare_words t.words) bare-same in
      let k₁ : symbol_count (bare t) ≡ symbol_count t = n symbol_count_at (omega arith) in
      let k₂ : row_count (bare t) ≡ row_count t = n row_count_at (omega arith) in
      let k₃ : cell_count (bare t) ≡ cell_count t = n cell_count_at (omega arith) in
      let k₄ : variable_count (bare t) ≡ variable_count t = n variable_count_at (omega arith) in
      let k₅ = bare-constraints in
      let k₆ = bare-edits in
      record {
        counts =
            record {
              symbols = rw k₁ f.counts.symbols;
              rows = rw k₂ f.counts.rows;
              cells = rw k₃ f.counts.cells;
              variables = rw k₄ f.counts.variables;
              constraints = omega (arith, k₅);
              edits = omega (arith, k₆);
              terms = omega (arith, bare-terms);
              gone = rw (g gone_count_at (omega arith)) f.counts.gone;
            };
        clear = rw bare-clear f.clear;
        whole = rw bare-whole f.whole;
        ids = λ i j a b c. rw (g (ids_at + i) (omega arith), g (ids_at + j) (omega arith)) (f.ids i j a b (omega (arith, c, k₁)));
        kinds = λ p a b. f.kinds p a (omega (arith, b, k₁));
        rows = λ i a b. let l = f.rows i a (omega (arith, b, k₂)) in (l.0, rw k₁ l.1);
        cells = rw (k₁, k₂, k₃) f.cells;
        numbers = λ i j a b. rw (g (variable_numbers_at + i) (omega arith), g (variable_numbers_at + j) (omega arith)) (f.numbers i j a (omega (arith, b, k₄)));
        owners = λ i a. let l = f.owners i (omega (arith, a, k₄)) in (l.0, rw k₁ l.1);
        changed = λ i a. f.changed i (omega (arith, a, k₄));
        markers = λ i a. absurd (omega (arith, a, k₅));
        others = λ i a. absurd (omega (arith, a, k₅));
        relations = λ i a. absurd (omega (arith, a, k₅));
        edited = λ i a. absurd (omega (arith, a, k₆));
        pluses = λ i a. absurd (omega (arith, a, k₆));
        minuses = λ i a. absurd (omega (arith, a, k₆));
        named = λ j a. absurd (omega (arith, a, bare-terms));
      }

-- ---- entering

pub entered : (t w : Sparse) {w₁ : Sparse} → length t.words ≡ words_size → Lengths w → reads t ≡ true → w₁ ≡ put_over (bare t) w → Entered t w₁
entered t w len l good e =
    let f = bare-form t len (reads-form t good) in
    let s = copy-reads (bare t) w f l in
    rw e (record {
      reads = good;
      long = len;
      form = copy-form (bare t) w f l;
      lengths = copy-lengths (bare t) w f.counts l;
      agrees = copy-agrees (bare t) w f.counts l;
      tableau = ap (λ (x : State). x.tableau) s ∙ bare-tableau t len;
      changes = ap (λ (x : State). x.changes) s ∙ bare-changes t len;
    })
