-- What tables that stand keep besides being sound: no cell past the live symbols, and variables that own their symbols. Notes, other counts of rows and of cells leave the owners as they are.
-- Assumes nothing.
use Rattle.std.specs.Prelude.{ℕ, ◌+◌, ◌%◌, ◌≤◌, ◌<◌, ◌≡◌, Bool, true, false, cond, List, eqb, Float, get_or}
use Rattle.std.proofs.Common.{sym, ◌∙◌, arith, get_or-set_same}
use Rattle.sparse.specs.Places.{symbol_count_at, row_count_at, cell_count_at, variable_count_at, should_clear_at, variable_numbers_at, kinds_at, row_places_at, variable_places_at, changed_at}
use Rattle.sparse.specs.Sparse.{Sparse, symbol_count, cell_count, variable_count}
use Rattle.layout.specs.cells.Names.{row_span}
use Rattle.layout.specs.cells.Seek.{run-inv}
use Rattle.waist.specs.substituting.Notes.{Noted, noted, var_changed_at, var_changed_if, note_row, note_rows}
use Rattle.waist.specs.substituting.Named.{Named, named-kept, note-kept, note-flag, note-if-kept}

-- no cell stands past the live symbols
abbrev pub Inside : Sparse → Type 0
Inside t = (j : ℕ) → j < cell_count t → get_or t.keys j 0 % row_span ≤ symbol_count t

-- the variables ascend, and each names an External of its own; kinds and flags are those that are written
pub record Owners (t : Sparse) : Type 0 where
  pub up : (i j : ℕ) → i < j → j < variable_count t → get_or t.words (variable_numbers_at + i) 0 < get_or t.words (variable_numbers_at + j) 0
  pub external : (v : ℕ) → v < variable_count t → get_or t.bytes (kinds_at + get_or t.bytes (variable_places_at + v) 0) 0 ≡ 0
  pub apart : (i j : ℕ) → i < j → j < variable_count t → get_or t.bytes (variable_places_at + i) 0 ≡ get_or t.bytes (variable_places_at + j) 0 → ⊥
  pub kinds : (p : ℕ) → 1 ≤ p → p ≤ symbol_count t → get_or t.bytes (kinds_at + p) 0 ≤ 3
  pub changed : (v : ℕ) → v < variable_count t → get_or t.bytes (changed_at + v) 0 ≤ 1
  pub clear : get_or t.words should_clear_at 0 ≤ 1

-- an operation keeps both
pub record Kept (t u : Sparse) : Type 0 where
  pub inside : Inside t → Inside u
  pub owners : Owners t → Owners u

pub kept_then : {t u v : Sparse} → Kept t u → Kept u v → Kept t v
kept_then a b = record { inside = λ h. b.inside (a.inside h); owners = λ h. b.owners (a.owners h) }

-- ---- owners

-- the flags are 0 or 1
abbrev pub Low : Noted → Type 0
Low s = ((v : ℕ) → v < get_or s.words variable_count_at 0 → get_or s.bytes (changed_at + v) 0 ≤ 1) × (get_or s.words should_clear_at 0 ≤ 1)

module _ (t u : Sparse) (n : Named t.words t.bytes) where
  -- the symbols and the variables stay but for their flags, and those stay low
  pub owners-by : ((q : ℕ) → (q ≡ should_clear_at → ⊥) → (q ≡ row_count_at → ⊥) → (q ≡ cell_count_at → ⊥) → get_or u.words q 0 ≡ get_or t.words q 0) → ((q : ℕ) → q ≤ row_places_at → get_or u.bytes q 0 ≡ get_or t.bytes q 0)
      → ((q : ℕ) → variable_places_at ≤ q → q < changed_at → get_or u.bytes q 0 ≡ get_or t.bytes q 0) → (Low (noted t.words t.bytes) → Low (noted u.words u.bytes)) → Owners t → Owners u
  owners-by words kinds places low o =
      let few = n.few-variables in
      let fs = n.few-symbols in
      let c : variable_count u ≡ variable_count t = words variable_count_at (λ e. omega (arith, e)) (λ e. omega (arith, e)) (λ e. omega (arith, e)) in
      let s : symbol_count u ≡ symbol_count t = words symbol_count_at (λ e. omega (arith, e)) (λ e. omega (arith, e)) (λ e. omega (arith, e)) in
      let number : (i : ℕ) → get_or u.words (variable_numbers_at + i) 0 ≡ get_or t.words (variable_numbers_at + i) 0 = λ i. words (variable_numbers_at + i) (λ e. omega (arith, e)) (λ e. omega (arith, e)) (λ e. omega (arith, e)) in
      let place : (v : ℕ) → v < variable_count t → get_or u.bytes (variable_places_at + v) 0 ≡ get_or t.bytes (variable_places_at + v) 0 = λ v h. places (variable_places_at + v) (omega arith) (omega (arith, h, few)) in
      let l = low (o.changed, o.clear) in
      record {
        up = λ i j a b. let b' : j < variable_count t = rw c at b in rw (number i, number j) (o.up i j a b');
        external = λ v b.
            let b' : v < variable_count t = rw c at b in
            let g = n.variables v b' in
            rw (place v b', kinds (kinds_at + get_or t.bytes (variable_places_at + v) 0) (omega (arith, g, fs))) (o.external v b');
        apart = λ i j a b e.
            let b' : j < variable_count t = rw c at b in
            o.apart i j a b' (sym (place i (omega (arith, a, b'))) ∙ e ∙ place j b');
        kinds = λ p a b. let b' : p ≤ symbol_count t = rw s at b in rw (kinds (kinds_at + p) (omega (arith, b', fs))) (o.kinds p a b');
        changed = l.0;
        clear = l.1;
      }

cleared : (p : ℕ) (s : Noted) → Named s.words s.bytes → get_or (var_changed_at p s).words should_clear_at 0 ≤ 1
unfolding var_changed_at
cleared p s n = let w = n.long in let z = get_or-set_same s.words should_clear_at 0 0 (omega (arith, w)) in omega (arith, z)

low-note : (p : ℕ) (s : Noted) → Named s.words s.bytes → Low s → Low (var_changed_at p s)
low-note p s n l = (
  (λ v h.
      let c = (note-kept p s n).words variable_count_at (λ e. omega (arith, e)) in
      let h' : v < get_or s.words variable_count_at 0 = omega (arith, h, c) in
      rw (note-flag p s n v h') (bit (eqb p (get_or s.bytes (variable_places_at + v) 0)) (eqb (get_or s.words should_clear_at 0) 1) (get_or s.bytes (changed_at + v) 0) (l.0 v h'))),
  cleared p s n,
)
  where
    bit : (a b : Bool) (x : ℕ) → x ≤ 1 → cond a 1 (cond b 0 x) ≤ 1
    bit true b x h = omega arith
    bit false true x h = omega arith
    bit false false x h = h

pub low-if : (on : Bool) (p : ℕ) (s : Noted) → Named s.words s.bytes → Low s → Low (var_changed_if on p s)
unfolding var_changed_if
low-if true p s n l = low-note p s n l
low-if false p s n l = l

pub low_rows : (at : ℕ) (y : Float) (size : ℕ) (keys : List ℕ) (vals : List Float) (count : ℕ) (s : Noted) → Named s.words s.bytes → Low s → Low (note_rows at y size keys vals count s)
unfolding note_rows note_row
low_rows at y size keys vals count s n l = (run-inv (λ (i : ℕ) (t : Noted). Named t.words t.bytes × Low t) (note_row at y size keys vals) 1 (count + 1) s (omega arith) turn (n, l)).1
  where
    turn : (i : ℕ) (t : Noted) → 1 ≤ i → i < count + 1 → Named t.words t.bytes × Low t → Named (note_row at y size keys vals i t).words (note_row at y size keys vals i t).bytes × Low (note_row at y size keys vals i t)
    turn i t a b h = (named-kept (note-if-kept _ _ t h.0) h.0, low-if _ _ t h.0 h.1)
