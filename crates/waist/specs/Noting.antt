-- A variable noted in the sparse tables: they read as the steps' `note`.
-- Assumes nothing.
use Rattle.std.specs.Prelude.{ℕ, ◌+◌, ◌≤◌, ◌≡◌, Bool, cond, List, get_or}
use Rattle.std.proofs.Math.Path.{refl, sym}
use Rattle.std.proofs.Common.{ap, ◌∙◌, subst, arith}
use Rattle.std.proofs.Math.Bool.{true, false}
use Rattle.laws.specs.Lists.{tab-ext}
use Rattle.steps.specs.Number.{Mark}
use Rattle.steps.specs.Work.{Work, with_changes}
use Rattle.steps.specs.Changes.{var_changed, note}
use Rattle.sparse.specs.Places.{next_id_at, symbol_count_at, row_count_at, cell_count_at, should_clear_at, row_places_at}
use Rattle.sparse.specs.Sparse.{Sparse, symbol_count, row_count, cell_count, symbol_at, basic_of, symbols_of, basics_of, objective_of, read}
use Rattle.layout.specs.cells.Names.{last_place}
use Rattle.waist.specs.substituting.Notes.{Noted, noted, var_changed_if}
use Rattle.waist.specs.substituting.Named.{NotesKept, named-kept, note-if-kept}
use Rattle.waist.specs.substituting.NotesRead.{note_in, symbol-kept, changed-if-read}
use Rattle.waist.specs.Working.{sparse, artificial_of, work_of, work-parts, lines_of, lines_same, Sound, basic-symbol}
use Rattle.waist.specs.Owning.{Kept, owners-by, low-if}
use Rattle.waist.specs.Substitutes.{Stays}
use Rattle.waist.specs.Dropping.{basic-by}

pub record Notes (art on : Bool) (p : ℕ) (t u : Sparse) : Type 0 where
  pub reads : (a : Mark) (v : ℕ) → work_of art a v u ≡ cond on (note (symbol_at t p).id (work_of art a v t)) (work_of art a v t)
  pub sound : Sound art u
  pub stays : Stays t u
  pub kept : Kept t u

module _ (art on : Bool) (p : ℕ) (t : Sparse) (so : Sound art t) (low : 1 ≤ p) (high : p ≤ symbol_count t) where
  abbrev s : Noted
  s = var_changed_if on p (noted t.words t.bytes)

  abbrev u : Sparse
  u = note_in s t

  kept : NotesKept (noted t.words t.bytes) s
  kept = note-if-kept on p (noted t.words t.bytes) so.named

  word : (q : ℕ) → (q ≡ should_clear_at → ⊥) → get_or u.words q 0 ≡ get_or t.words q 0
  word q a = kept.words q a

  narrow : symbol_count t ≤ last_place
  narrow = so.named.few-symbols

  symbol : (q : ℕ) → q ≤ last_place → symbol_at u q ≡ symbol_at t q
  symbol q h = symbol-kept t kept q h

  symbols-are : symbols_of u ≡ symbols_of t
  unfolding symbols_of
  symbols-are = rw (word symbol_count_at (λ e. omega (arith, e))) (tab-ext (symbol_at u) (symbol_at t) 1 (symbol_count t) λ q a b. let f = narrow in symbol q (omega (arith, b, f)))

  line : (i : ℕ) → (basic_of u i).row ≡ (basic_of t i).row
  unfolding basic_of
  line i = rw (word symbol_count_at (λ e. omega (arith, e)), word cell_count_at (λ e. omega (arith, e))) refl

  byte : (i : ℕ) → i ≤ row_count t → get_or u.bytes (row_places_at + i) 0 ≡ get_or t.bytes (row_places_at + i) 0
  byte i b = let f = so.few in kept.before (row_places_at + i) (omega (arith, b, f))

  basic : (i : ℕ) → 1 ≤ i → i ≤ row_count t → basic_of u i ≡ basic_of t i
  basic i a b =
      let l = so.rows i a b in
      let f = narrow in
      basic-by (basic-symbol u i ∙ ap (symbol_at u) (byte i b) ∙ symbol (get_or t.bytes (row_places_at + i) 0) (omega (arith, l, f)) ∙ sym (basic-symbol t i)) (line i)

  rows_are : basics_of u ≡ basics_of t
  unfolding basics_of
  rows_are = rw (word row_count_at (λ e. omega (arith, e))) (tab-ext (basic_of u) (basic_of t) 1 (row_count t) λ i a b. basic i a (omega (arith, b)))

  objective-is : objective_of u ≡ objective_of t
  unfolding objective_of
  objective-is = rw (word symbol_count_at (λ e. omega (arith, e))) refl

  artificial-is : artificial_of art u ≡ artificial_of art t
  unfolding artificial_of
  artificial-is = rw (word row_count_at (λ e. omega (arith, e)), line (1 + row_count t)) refl

  changes-are : (read u).changes ≡ cond on (var_changed (symbol_at t p).id (read t).changes) (read t).changes
  changes-are = changed-if-read on p (noted t.words t.bytes) t so.named low high

  noted-work : (b : Bool) (w : Work) (i : ℕ) → with_changes (cond b (var_changed i w.changes) w.changes) w ≡ cond b (note i w) w
  unfolding note with_changes
  noted-work true w i = refl
  noted-work false w i = refl

  reads : (a : Mark) (v : ℕ) → work_of art a v u ≡ cond on (note (symbol_at t p).id (work_of art a v t)) (work_of art a v t)
  unfolding with_changes
  reads a v =
      work-parts art a v u
      ∙ rw (symbols-are, word next_id_at (λ e. omega (arith, e)), rows_are, objective-is, artificial-is, changes-are) refl
      ∙ sym (ap (λ (w : Work). with_changes (cond on (var_changed (symbol_at t p).id w.changes) w.changes) w) (work-parts art a v t))
      ∙ noted-work on (work_of art a v t) (symbol_at t p).id

  held_same : lines_of art u ≡ lines_of art t
  held_same = lines_same art t u (word row_count_at (λ e. omega (arith, e)))

  sound : Sound art u
  sound =
      let c : row_count u ≡ row_count t = word row_count_at (λ e. omega (arith, e)) in
      let d : symbol_count u ≡ symbol_count t = word symbol_count_at (λ e. omega (arith, e)) in
      record {
        named = named-kept kept so.named;
        held = rw (held_same, word cell_count_at (λ e. omega (arith, e))) so.held;
        few = rw c so.few;
        rows = λ i a b. let b' : i ≤ row_count t = rw c at b in rw (byte i b', d) (so.rows i a b');
        up = λ i q a b e. let e' : q ≤ row_count t = rw c at e in rw (byte i (omega (arith, b, e')), byte q e') (so.up i q a b e');
        long = so.long;
      }

  keeps : Kept t u
  keeps =
      let d : symbol_count u ≡ symbol_count t = word symbol_count_at (λ e. omega (arith, e)) in
      let n : cell_count u ≡ cell_count t = word cell_count_at (λ e. omega (arith, e)) in
      record { inside = λ h. rw (n, d) h; owners = owners-by t u so.named (λ q a b d. word q a) (λ q a. kept.before q (omega (arith, a))) (λ q a b. kept.before q b) (low-if on p (noted t.words t.bytes) so.named) }

  pub note-reads : Notes art on p t u
  note-reads = record {
    reads = reads;
    sound = sound;
    stays = record { words = λ q a b. word q a; bytes = kept.before; later = kept.after; reals = λ q a. refl };
    kept = keeps;
  }

  pub note-calls : (ws bs : List ℕ) → noted ws bs ≡ var_changed_if on p (noted t.words t.bytes) → Notes art on p t (sparse ws t.keys bs t.reals t.values)
  note-calls ws bs e = subst (λ (z : Noted). Notes art on p t (note_in z t)) (sym e) note-reads
