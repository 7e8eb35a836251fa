-- The shift over the sparse tables, row by row, reads as the steps' rows shifted.
-- Assumes nothing.
use Prim.Native.Nat.{ℕ, zero, suc, ◌+◌, ◌-◌, ◌≤◌, ◌<◌}
use Rattle.std.specs.Prelude.{◌≡◌, Bool, true, false, ◌&&◌, List, [], ◌∷◌, ltb, Float, length}
use Rattle.std.proofs.Math.Path.{refl, ap}
use Rattle.std.proofs.Common.{sym, ◌∙◌, subst, length-set, get_or-set_same, get_or-set_other, ltb-true, ltb-false}
use Rattle.std.proofs.Math.Bool.{cond}
use Rattle.std.proofs.Math.Option.{Option, none, some}
use native.Mathlib.Omega.{arith}
use Rattle.std.specs.Float.{nan}
use Rattle.std.proofs.Math.ListN.{get_or}
use Rattle.laws.specs.Lists.{tab}
use Rattle.steps.specs.Number.{Mark, worse}
use Rattle.steps.specs.Symbol.{Symbol, is_external}
use Rattle.steps.specs.Row.{Row, untouched}
use Rattle.steps.specs.State.{Basic, Changes}
use Rattle.steps.specs.Changes.{var_changed, all_changed}
use Rattle.steps.specs.Substitute.{Substituted, marks_of, noted_of}
use Rattle.steps.specs.Edit.{shift_row, shift_rows}
use Rattle.rows.specs.Marks.{worse-assoc}
use Rattle.sparse.specs.Places.{symbol_count_at, kinds_at, row_places_at, constants_at, reals_size}
use Rattle.sparse.specs.Sparse.{Sparse, symbol_count, row_count, cell_count, symbol_at, basic_of, read}
use Rattle.layout.specs.cells.Seek.{run-inv}
use Rattle.waist.specs.substituting.Notes.{Noted, noted, var_changed_if}
use Rattle.waist.specs.substituting.Named.{Named, NotesKept, notes-same, notes-then, named-kept, note-if-kept}
use Rattle.waist.specs.substituting.NotesRead.{note_in, symbol-kept, changed-if-read}
use Rattle.waist.specs.Working.{Sound, basic-symbol}
use Rattle.waist.specs.Entering.{external-at}
use Rattle.waist.specs.Owning.{Low, low-if}
use Rattle.optimising.specs.declared.suggestion.shifting.Drag.{Drag}
use Rattle.optimising.specs.suggestion.Shifting.{shift_by, changes_by, shift_reals, shift_mark, Shifted, shifted, shift_turn, shift_rows_in}

noted-cons : (r : Substituted) (rs : List Substituted) (c : Changes) → all_changed (noted_of (r ∷ rs)) c ≡ all_changed (noted_of rs) (cond (is_external r.symbol && r.written.constant_changed) (var_changed r.symbol.id c) c)
unfolding noted_of all_changed
noted-cons r rs c = go (is_external r.symbol && r.written.constant_changed)
  where
    go : (b : Bool) → all_changed (elim b [ true ↦ r.symbol.id ∷ noted_of rs | false ↦ noted_of rs ]) c ≡ all_changed (noted_of rs) (cond b (var_changed r.symbol.id c) c)
    go true = refl
    go false = refl

-- one row: its constant, whether that changed, and the mark
one-constant : (o : Option Float) (i : ℕ) (r : List Float) (row : Row) → constants_at + i < length r → get_or r (constants_at + i) nan ≡ row.constant → get_or (shift_reals o i r) (constants_at + i) nan ≡ (shift_row row o).row.constant
unfolding shift_reals shift_row untouched
one-constant none i r row l e = e
one-constant (some x) i r row l e = get_or-set_same r (constants_at + i) _ nan l ∙ rw e refl

one-other : (o : Option Float) (i : ℕ) (r : List Float) (q : ℕ) → (q ≡ constants_at + i → ⊥) → get_or (shift_reals o i r) q nan ≡ get_or r q nan
unfolding shift_reals
one-other none i r q d = refl
one-other (some x) i r q d = get_or-set_other r (constants_at + i) q _ nan d

one-long : (o : Option Float) (i : ℕ) (r : List Float) → length (shift_reals o i r) ≡ length r
unfolding shift_reals
one-long none i r = refl
one-long (some x) i r = length-set r (constants_at + i) _

one-changed : (o : Option Float) (row : Row) → changes_by o ≡ (shift_row row o).constant_changed
unfolding changes_by shift_row untouched
one-changed none row = refl
one-changed (some x) row = refl

one-mark : (o : Option Float) (i : ℕ) (r : List Float) (row : Row) → get_or r (constants_at + i) nan ≡ row.constant → shift_mark o i r ≡ (shift_row row o).mark
unfolding shift_mark shift_row untouched
one-mark none i r row e = refl
one-mark (some x) i r row e = rw e refl

pub one-cells : (o : Option Float) (row : Row) → (shift_row row o).row.cells ≡ row.cells
unfolding shift_row untouched
one-cells none row = refl
one-cells (some x) row = refl

module _ (art : Bool) (d : Drag) (t : Sparse) (so : Sound art t) (a : Mark) where
  abbrev count : ℕ
  count = row_count t

  abbrev place_byte : ℕ → ℕ
  place_byte i = get_or t.bytes (row_places_at + i) 0

  unfoldable pub gotten : ℕ → Option Float
  gotten i = shift_by d (cell_count t) t.keys t.values (place_byte i) i

  unfoldable pub sub : ℕ → Substituted
  sub i = record { symbol = symbol_at t (place_byte i); written = shift_row (basic_of t i).row (gotten i) }

  pub rows-tab : (shift : Basic → Option Float) → ((i : ℕ) → 1 ≤ i → i ≤ count → shift (basic_of t i) ≡ gotten i) → (k i : ℕ) → 1 ≤ i → i + k ≤ count + 1 → shift_rows shift (tab (basic_of t) i k) ≡ tab sub i k
  unfolding shift_rows tab sub
  rows-tab shift q zero i l h = refl
  rows-tab shift q (suc k) i l h = rw (q i l (omega (arith, h)), rows-tab shift q k (suc i) (omega arith) (omega (arith, h)), basic-symbol t i) refl

  abbrev s₀ : Noted
  s₀ = noted t.words t.bytes

  abbrev start : Shifted
  start = shifted s₀ t.reals a

  abbrev turn : ℕ → Shifted → Shifted
  turn = shift_turn d (cell_count t) t.keys t.values

  pub record Going (i : ℕ) (s : Shifted) : Type 0 where
    pub notes : all_changed (noted_of (tab sub i (count + 1 - i))) (read (note_in s.notes t)).changes ≡ all_changed (noted_of (tab sub 1 count)) (read t).changes
    pub marks : worse s.mark (marks_of (tab sub i (count + 1 - i))) ≡ worse a (marks_of (tab sub 1 count))
    pub kept : NotesKept s₀ s.notes
    pub low : Low s₀ → Low s.notes
    pub done : (q : ℕ) → 1 ≤ q → q < i → get_or s.reals (constants_at + q) nan ≡ (sub q).written.row.constant
    pub rest : (q : ℕ) → ((p : ℕ) → 1 ≤ p → p < i → q ≡ constants_at + p → ⊥) → get_or s.reals q nan ≡ get_or t.reals q nan
    pub long : length s.reals ≡ reals_size

  abbrev on_of : ℕ → Bool
  on_of i = is_external (sub i).symbol && (sub i).written.constant_changed

  turn_is : (i : ℕ) (s : Shifted) → NotesKept s₀ s.notes → 1 ≤ i → i ≤ count → turn i s ≡ shifted (var_changed_if (on_of i) (place_byte i) s.notes) (shift_reals (gotten i) i s.reals) (worse s.mark (shift_mark (gotten i) i s.reals))
  unfolding shift_turn sub gotten
  turn_is i s k l h =
      let v = so.rows i l h in
      let f = so.named.few-symbols in
      let g = so.few in
      rw (k.before (row_places_at + i) (omega (arith, h, g)), k.before (kinds_at + place_byte i) (omega (arith, v, f)), external-at t (place_byte i), one-changed (shift_by d (cell_count t) t.keys t.values (place_byte i) i) (basic_of t i).row) refl

  row-constant : (i : ℕ) → (basic_of t i).row.constant ≡ get_or t.reals (constants_at + i) nan
  unfolding basic_of
  row-constant i = refl

  -- the first of the rows that are left
  left-first : (i : ℕ) → i < 1 + count → tab sub i (count + 1 - i) ≡ sub i ∷ tab sub (suc i) (count + 1 - suc i)
  unfolding tab
  left-first i h = let e : count + 1 - i ≡ suc (count + 1 - suc i) = omega (arith, h) in rw e refl

  marks-cons : (x : Substituted) (xs : List Substituted) → marks_of (x ∷ xs) ≡ worse x.written.mark (marks_of xs)
  unfolding marks_of
  marks-cons x xs = refl

  module _ (i : ℕ) (s : Shifted) (l : 1 ≤ i) (h : i < 1 + count) (g : Going i s) where
    abbrev o : Option Float
    o = gotten i

    live : (1 ≤ place_byte i) × (place_byte i ≤ symbol_count t)
    live = so.rows i l (omega (arith, h))

    here : get_or s.reals (constants_at + i) nan ≡ (basic_of t i).row.constant
    here = g.rest (constants_at + i) (λ p a b e. omega (arith, b, e)) ∙ sym (row-constant i)

    in-reals : constants_at + i < length s.reals
    in-reals = let f = so.few in let z = g.long in omega (arith, h, f, z)

    abbrev next : Noted
    next = var_changed_if (on_of i) (place_byte i) s.notes

    named : Named s.notes.words s.notes.bytes
    named = named-kept g.kept so.named

    changed : (read (note_in next t)).changes ≡ cond (on_of i) (var_changed (sub i).symbol.id (read (note_in s.notes t)).changes) (read (note_in s.notes t)).changes
    unfolding sub
    changed =
        let f = so.named.few-symbols in
        let v = live in
        let c : get_or s.notes.words symbol_count_at 0 ≡ symbol_count t = g.kept.words symbol_count_at (λ z. omega (arith, z)) in
        changed-if-read (on_of i) (place_byte i) s.notes t named v.0 (omega (arith, v, c))
        ∙ ap (λ (z : Symbol). cond (on_of i) (var_changed z.id (read (note_in s.notes t)).changes) (read (note_in s.notes t)).changes) (symbol-kept t g.kept (place_byte i) (omega (arith, v, f)))

    mark-is : shift_mark o i s.reals ≡ (sub i).written.mark
    unfolding sub
    mark-is = one-mark o i s.reals (basic_of t i).row here

    constant-is : get_or (shift_reals o i s.reals) (constants_at + i) nan ≡ (sub i).written.row.constant
    unfolding sub
    constant-is = one-constant o i s.reals (basic_of t i).row in-reals here

    done : (q : ℕ) → 1 ≤ q → q < suc i → (b : Bool) → ltb q i ≡ b → get_or (shift_reals o i s.reals) (constants_at + q) nan ≡ (sub q).written.row.constant
    done q u v true e = let m = ltb-true q i e in one-other o i s.reals (constants_at + q) (λ z. omega (arith, z, m)) ∙ g.done q u m
    done q u v false e = let z : i ≡ q = omega (arith, v, ltb-false q i e) in subst (λ (x : ℕ). get_or (shift_reals o i s.reals) (constants_at + x) nan ≡ (sub x).written.row.constant) z constant-is

    going_next : Going (suc i) (shifted next (shift_reals o i s.reals) (worse s.mark (shift_mark o i s.reals)))
    going_next = record {
      notes = ap (all_changed (noted_of (tab sub (suc i) (count + 1 - suc i)))) changed
          ∙ sym (noted-cons (sub i) (tab sub (suc i) (count + 1 - suc i)) (read (note_in s.notes t)).changes)
          ∙ ap (λ (x : List Substituted). all_changed (noted_of x) (read (note_in s.notes t)).changes) (sym (left-first i h))
          ∙ g.notes;
      marks = worse-assoc s.mark (shift_mark o i s.reals) (marks_of (tab sub (suc i) (count + 1 - suc i)))
          ∙ rw mark-is refl
          ∙ ap (worse s.mark) (sym (ap marks_of (left-first i h) ∙ marks-cons (sub i) (tab sub (suc i) (count + 1 - suc i))))
          ∙ g.marks;
      kept = notes-then g.kept (note-if-kept (on_of i) (place_byte i) s.notes named);
      low = λ z. low-if (on_of i) (place_byte i) s.notes named (g.low z);
      done = λ q u v. done q u v (ltb q i) refl;
      rest = λ q z. one-other o i s.reals q (z i l (omega arith)) ∙ g.rest q (λ p a b. z p a (omega (arith, b)));
      long = one-long o i s.reals ∙ g.long;
    }

  going_on : (i : ℕ) (s : Shifted) → 1 ≤ i → i < 1 + count → Going i s → Going (suc i) (turn i s)
  going_on i s l h g = rw (turn_is i s g.kept l (omega (arith, h))) (going_next i s l h g)

  pub all_done : Going (1 + count) (shift_rows_in d (cell_count t) t.keys t.values count start)
  unfolding shift_rows_in
  all_done =
      let e : count + 1 - 1 ≡ count = omega arith in
      run-inv Going turn 1 (1 + count) start (omega arith) going_on
      record { notes = rw e refl; marks = rw e refl; kept = notes-same s₀; low = λ z. z; done = λ q u v. absurd (omega (arith, u, v)); rest = λ q z. refl; long = so.long }

  pub none_left : tab sub (1 + count) (count + 1 - (1 + count)) ≡ []
  unfolding tab
  none_left = let e : count + 1 - (1 + count) ≡ 0 = omega arith in rw e refl
