-- The notes read as the steps' changed set: of one variable, and of the rows whose constant changes.
-- Assumes nothing.
use Prim.Native.Nat.{ℕ, zero, suc, ◌+◌, ◌*◌, ◌≤◌, ◌<◌}
use Rattle.std.specs.Prelude.{◌≡◌, Bool, ◌&&◌, ◌||◌, Float}
use Rattle.std.proofs.Math.Path.{refl, sym, ap}
use Rattle.std.proofs.Common.{◌∙◌}
use Rattle.std.proofs.Math.Bool.{true, false, cond}
use mathlib.Core.List.{List, ◌∷◌, map}
use native.Mathlib.Omega.{arith}
use Rattle.std.proofs.Math.Dec.{eqb}
use Rattle.std.proofs.Math.ListN.{get_or}
use Rattle.std.proofs.Math.Seq.{get_or-set_same}
use Rattle.laws.specs.Loops.{run, run-next, run-last}
use Rattle.laws.specs.Lists.{tab, list_of, tab-ext, map-tab}
use Rattle.steps.specs.Symbol.{Symbol, is_external}
use Rattle.steps.specs.Row.{Written}
use Rattle.steps.specs.State.{Variable, Changes}
use Rattle.steps.specs.Changes.{with_flag, clear_changed, flag_symbol, var_changed, all_changed}
use Rattle.steps.specs.Substitute.{Substituted, noted_of}
use Rattle.sparse.specs.Places.{symbol_count_at, variable_count_at, should_clear_at, gone_count_at, ids_at, variable_numbers_at, variable_uses_at, gone_numbers_at, kinds_at, row_places_at, variable_places_at, changed_at}
use Rattle.sparse.specs.Sparse.{Sparse, symbol_at, variable_of, gone_of, read}
use Rattle.layout.specs.cells.Names.{row_span, last_place}
use Rattle.layout.specs.cells.Cells.{cell_at}
use Rattle.waist.specs.substituting.Notes.{Noted, noted, var_changed_at, var_changed_if, is_external_kind, changes, note_row, note_rows}
use Rattle.waist.specs.substituting.Gone.{gone-kept}
use Rattle.waist.specs.substituting.Named.{Named, same_place, NotesKept, notes-same, notes-then, named-kept, note-kept, note-flag, note-if-kept}

-- the tables with the notes in them
abbrev pub note_in : Noted → Sparse → Sparse
note_in s t = record { words = s.words; keys = t.keys; bytes = s.bytes; reals = t.reals; values = t.values }

-- a symbol at a live place is the same with other notes
pub symbol-kept : {s u : Noted} (t : Sparse) → NotesKept s u → (p : ℕ) → p ≤ last_place → symbol_at (note_in u t) p ≡ symbol_at (note_in s t) p
unfolding symbol_at
symbol-kept t k p h = rw (k.words (ids_at + p) (λ e. omega (arith, e)), k.before (kinds_at + p) (omega (arith, h))) refl

-- ---- one variable noted

flag-bit : (a c : Bool) (x : ℕ) → eqb (cond a 1 (cond c 0 x)) 1 ≡ (cond c false (eqb x 1) || a)
flag-bit true true x = refl
flag-bit true false x = sym (or-true (eqb x 1))
  where
    or-true : (b : Bool) → b || true ≡ true
    or-true true = refl
    or-true false = refl
flag-bit false true x = refl
flag-bit false false x = sym (or-false (eqb x 1))
  where
    or-false : (b : Bool) → b || false ≡ b
    or-false true = refl
    or-false false = refl

module _ (p : ℕ) (s : Noted) (t : Sparse) (n : Named s.words s.bytes) (low : 1 ≤ p) (high : p ≤ get_or s.words symbol_count_at 0) where
  abbrev u : Sparse
  u = note_in s t

  abbrev u' : Sparse
  u' = note_in (var_changed_at p s) t

  abbrev id : ℕ
  id = get_or s.words (ids_at + p) 0

  abbrev count : ℕ
  count = get_or s.words variable_count_at 0

  abbrev on : Bool
  on = eqb (get_or s.words should_clear_at 0) 1

  one-read : (v : ℕ) → v < count → variable_of u' v ≡ with_flag (cond on false (variable_of u v).changed || eqb id (variable_of u v).symbol.id) (variable_of u v)
  unfolding variable_of with_flag symbol_at
  one-read v h =
      let few = n.few-variables in
      let k = note-kept p s n in
      let live = n.variables v h in
      let l = n.few-symbols in
      rw (
        k.words (variable_numbers_at + v) (λ e. omega (arith, e)),
        k.words (variable_uses_at + v) (λ e. omega (arith, e)),
        k.before (variable_places_at + v) (omega (arith, h, few)),
        k.words (ids_at + get_or s.bytes (variable_places_at + v) 0) (λ e. omega (arith, e)),
        k.before (kinds_at + get_or s.bytes (variable_places_at + v) 0) (omega (arith, live, l)),
        note-flag p s n v h,
        flag-bit (eqb p (get_or s.bytes (variable_places_at + v) 0)) on (get_or s.bytes (changed_at + v) 0),
        same_place s.words s.bytes n p (get_or s.bytes (variable_places_at + v) 0) low high live.0 live.1,
      ) refl

  abbrev vs : List Variable
  vs = list_of count (variable_of u)

  flags-read : (b : Bool) → tab (λ v. with_flag (cond b false (variable_of u v).changed || eqb id (variable_of u v).symbol.id) (variable_of u v)) 0 count ≡ flag_symbol id (cond b (clear_changed vs) vs)
  unfolding flag_symbol clear_changed list_of with_flag
  flags-read true =
      sym (ap (map (λ (v : Variable). with_flag (v.changed || eqb id v.symbol.id) v)) (map-tab (with_flag false) (variable_of u) 0 count)
      ∙ map-tab (λ (v : Variable). with_flag (v.changed || eqb id v.symbol.id) v) (λ v. with_flag false (variable_of u v)) 0 count)
  flags-read false = sym (map-tab (λ (v : Variable). with_flag (v.changed || eqb id v.symbol.id) v) (variable_of u) 0 count)

  pub var-changed-read : (read u').changes ≡ var_changed (symbol_at u p).id (read u).changes
  unfolding read var_changed var_changed_at symbol_at list_of
  var-changed-read =
      let l = n.long in
      let k = note-kept p s n in
      let c : get_or (var_changed_at p s).words variable_count_at 0 ≡ count = k.words variable_count_at (λ e. omega (arith, e)) in
      let z : get_or (var_changed_at p s).words should_clear_at 0 ≡ 0 = get_or-set_same s.words should_clear_at 0 0 (omega (arith, l)) in
      let gone : gone_of u' ≡ gone_of u = gone-kept u u' (k.words gone_count_at (λ e. omega (arith, e))) (λ j. k.words (gone_numbers_at + j) (λ e. omega (arith, e))) in
      rw (c, z, gone) (ap (λ (x : List Variable). record { variables = x; gone = gone_of u; should_clear = false }) (tab-ext (variable_of u') _ 0 count (λ v a b. one-read v (omega (arith, b))) ∙ flags-read on))

pub changed-if-read : (on : Bool) (p : ℕ) (s : Noted) (t : Sparse) → Named s.words s.bytes → 1 ≤ p → p ≤ get_or s.words symbol_count_at 0
    → (read (note_in (var_changed_if on p s) t)).changes ≡ cond on (var_changed (symbol_at (note_in s t) p).id (read (note_in s t)).changes) (read (note_in s t)).changes
unfolding var_changed_if
changed-if-read true p s t n low high = var-changed-read p s t n low high
changed-if-read false p s t n low high = refl

noted-cons : (r : Substituted) (rs : List Substituted) (c : Changes) → all_changed (noted_of (r ∷ rs)) c ≡ all_changed (noted_of rs) (cond (is_external r.symbol && r.written.constant_changed) (var_changed r.symbol.id c) c)
unfolding noted_of all_changed
noted-cons r rs c = go (is_external r.symbol && r.written.constant_changed)
  where
    go : (b : Bool) → all_changed (elim b [ true ↦ r.symbol.id ∷ noted_of rs | false ↦ noted_of rs ]) c ≡ all_changed (noted_of rs) (cond b (var_changed r.symbol.id c) c)
    go true = refl
    go false = refl

external-at : (t : Sparse) (p : ℕ) → is_external (symbol_at t p) ≡ is_external_kind (get_or t.bytes (kinds_at + p) 0)
unfolding symbol_at is_external_kind is_external
external-at t p = refl

-- ---- the rows: `steps i` is what the substitution does to row i

module _ (at : ℕ) (y : Float) (size : ℕ) (keys : List ℕ) (vals : List Float) (count : ℕ) (t : Sparse) (n : Named t.words t.bytes)
    (live : (i : ℕ) → 1 ≤ i → i ≤ count → (1 ≤ get_or t.bytes (row_places_at + i) 0) × (get_or t.bytes (row_places_at + i) 0 ≤ get_or t.words symbol_count_at 0)) (few : row_places_at + count < changed_at)
    (steps : ℕ → Written) (same : (i : ℕ) → 1 ≤ i → i ≤ count → (steps i).constant_changed ≡ changes (cell_at keys vals size (i * row_span + at)) y) where
  abbrev s₀ : Noted
  s₀ = noted t.words t.bytes

  abbrev place_byte : ℕ → ℕ
  place_byte i = get_or t.bytes (row_places_at + i) 0

  unfoldable pub stepped_row : ℕ → Substituted
  stepped_row i = record { symbol = symbol_at t (place_byte i); written = steps i }

  abbrev note : ℕ → Noted → Noted
  note = note_row at y size keys vals

  abbrev on_of : ℕ → Bool
  on_of i = is_external (symbol_at t (place_byte i)) && (steps i).constant_changed

  turn_is : (i : ℕ) (s : Noted) → NotesKept s₀ s → 1 ≤ i → i ≤ count → note i s ≡ var_changed_if (on_of i) (place_byte i) s
  unfolding note_row
  turn_is i s k a b =
      let l = live i a b in
      let f = n.few-symbols in
      rw (k.before (row_places_at + i) (omega (arith, b, few)), k.before (kinds_at + place_byte i) (omega (arith, l, f)), external-at t (place_byte i), same i a b) refl

  run_on : (i k : ℕ) (s : Noted) → NotesKept s₀ s → 1 ≤ i → i + suc k ≤ count + 1 → run note i (i + suc k) s ≡ run note (suc i) (suc i + k) (var_changed_if (on_of i) (place_byte i) s)
  run_on i k s h a b =
      let e : i + 1 ≡ suc i = omega arith in
      let e₁ : i + suc k ≡ suc i + k = omega arith in
      let turn : run note (i + 1) (i + suc k) (var_changed_if (on_of i) (place_byte i) s) ≡ run note i (i + suc k) s = run-next note i (i + suc k) s (omega arith) (sym (turn_is i s h a (omega (arith, b)))) refl in
      sym turn ∙ rw (e, e₁) refl

  next-kept : (i : ℕ) (s : Noted) → NotesKept s₀ s → NotesKept s₀ (var_changed_if (on_of i) (place_byte i) s)
  next-kept i s h = notes-then h (note-if-kept (on_of i) (place_byte i) s (named-kept h n))

  notes-from : (k i : ℕ) (s : Noted) → NotesKept s₀ s → 1 ≤ i → i + k ≤ count + 1 → ((read (note_in (run note i (i + k) s) t)).changes ≡ all_changed (noted_of (tab stepped_row i k)) (read (note_in s t)).changes) × NotesKept s₀ (run note i (i + k) s)
  unfolding tab noted_of all_changed stepped_row
  notes-from zero i s h a b =
      let e : s ≡ run note i (i + 0) s = run-last note i (i + 0) s (omega arith) refl in
      rw (← e) (refl, h)
  notes-from (suc k) i s h a b =
      let l = live i a (omega (arith, b)) in
      let c : get_or s.words symbol_count_at 0 ≡ get_or t.words symbol_count_at 0 = h.words symbol_count_at (λ z. omega (arith, z)) in
      let f = n.few-symbols in
      let r = notes-from k (suc i) (var_changed_if (on_of i) (place_byte i) s) (next-kept i s h) (omega arith) (omega (arith, b)) in
      let sym₁ : symbol_at (note_in s t) (place_byte i) ≡ symbol_at t (place_byte i) = symbol-kept t h (place_byte i) (omega (arith, l, f)) in
      let w : (read (note_in (var_changed_if (on_of i) (place_byte i) s) t)).changes ≡ cond (on_of i) (var_changed (symbol_at t (place_byte i)).id (read (note_in s t)).changes) (read (note_in s t)).changes =
      changed-if-read (on_of i) (place_byte i) s t (named-kept h n) l.0 (rw c l.1) ∙ ap (λ (z : Symbol). cond (on_of i) (var_changed z.id (read (note_in s t)).changes) (read (note_in s t)).changes) sym₁ in
      rw (run_on i k s h a b) (r.0 ∙ ap (all_changed (noted_of (tab stepped_row (suc i) k))) w ∙ sym (noted-cons (stepped_row i) (tab stepped_row (suc i) k) (read (note_in s t)).changes), r.1)

  pub notes-read : (read (note_in (note_rows at y size keys vals count s₀) t)).changes ≡ all_changed (noted_of (tab stepped_row 1 count)) (read t).changes
  unfolding note_rows
  notes-read =
      let e : 1 + count ≡ count + 1 = omega arith in
      let r = notes-from count 1 s₀ (notes-same s₀) (omega arith) (omega arith) in
      (rw e at r.0)

  pub notes-kept : NotesKept s₀ (note_rows at y size keys vals count s₀)
  unfolding note_rows
  notes-kept =
      let e : 1 + count ≡ count + 1 = omega arith in
      let r = notes-from count 1 s₀ (notes-same s₀) (omega arith) (omega arith) in
      (rw e at r.1)
