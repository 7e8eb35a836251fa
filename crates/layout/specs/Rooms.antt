-- What fits where: the tables' lengths, counts within the room for them, and states that have a place for each of their parts.
-- Assumes nothing.
use Rattle.std.specs.Prelude.{ℕ, ◌+◌, ◌≤◌, ◌<◌, ◌≡◌, refl, Bool, true, false, ◌&&◌, List, [], eqb, length, get_or}
use Rattle.std.proofs.Common.{eqb-true, eq-eqb}
use Rattle.std.proofs.Math.Option.{Option, none, some}
use Rattle.steps.specs.Number.{usual_cutoff}
use Rattle.steps.specs.Symbol.{Symbol}
use Rattle.steps.specs.State.{Basic, Constraint, Edit, State}
use Rattle.steps.specs.Readable.{code}
use Rattle.layout.specs.Layout.{Tables, head_size, items_size, rows_size, symbol_count, row_count, variable_count, constraint_count, edit_count, clear_flag, whole_flag, changed_flag, term_count, relation_kind, constraints_at}

-- "a lent table has the wrong length"
unfoldable pub lengths_right : Tables → Bool
lengths_right t = eqb (length t.head) head_size && eqb (length t.names) items_size && eqb (length t.reals) items_size && eqb (length t.rows) rows_size

abbrev pub Lengths : Tables → Type 0
Lengths t = (length t.head ≡ head_size) × (length t.names ≡ items_size) × (length t.reals ≡ items_size) × (length t.rows ≡ rows_size)

-- what an array's type says of each row
abbrev pub Widths : {A : Type 0} → ℕ → List (List A) → Type 0
Widths w l = (j : ℕ) → j < length l → length (get_or l j []) ≡ w

abbrev pub Wide : Tables → Type 0
Wide t = (Widths 21 t.names) × (Widths 18 t.reals) × (Widths 130 t.rows)

-- each count is within the room: a row has 129 cells
abbrev pub Counts : List ℕ → Type 0
Counts h = (symbol_count h ≤ 129) × (row_count h ≤ 50) × (variable_count h ≤ 32) × (constraint_count h ≤ 48) × (edit_count h ≤ 48)

-- flags are 0 or 1, a constraint has at most 16 terms, and its relation is one of three: tables that a state can have written
abbrev pub Coded : Tables → Type 0
Coded t =
    (clear_flag t.head ≤ 1)
    × (whole_flag t.head ≤ 1)
    × ((j : ℕ) → j < variable_count t.head → changed_flag (get_or t.names j []) ≤ 1)
    × ((j : ℕ) → j < constraint_count t.head → term_count (get_or t.names (constraints_at + j) []) ≤ 16)
    × ((j : ℕ) → j < constraint_count t.head → relation_kind (get_or t.names (constraints_at + j) []) ≤ 2)

-- code 0 says that there is no other symbol, so a symbol's code is not 0
abbrev pub Named : Option Symbol → Type 0
Named none = Unit {0}
Named (some s) = 0 < code s

-- a state of the usual cutoff and of one group in which no gone entry waits, with room for each of its parts, a cell for each symbol in each row and in the objective
pub record Fits (s : State) : Type 0 where
  pub usual : s.tableau.cutoff ≡ usual_cutoff
  pub symbols : length s.tableau.symbols ≤ 129
  pub rows : length s.tableau.rows ≤ 50
  pub variables : length s.changes.variables ≤ 32
  pub gone : s.changes.gone ≡ []
  pub constraints : length s.constraints ≤ 48
  pub edits : length s.edits ≤ 48
  pub objective : length s.tableau.objective ≡ length s.tableau.symbols
  pub cells : (d : Basic) (j : ℕ) → j < length s.tableau.rows → length (get_or s.tableau.rows j d).row.cells ≡ length s.tableau.symbols
  pub terms : (d : Constraint) (j : ℕ) → j < length s.constraints → length (get_or s.constraints j d).terms ≤ 16
  pub groups : (d : Constraint) (j : ℕ) → j < length s.constraints → (get_or s.constraints j d).group ≡ 1
  pub others : (d : Constraint) (j : ℕ) → j < length s.constraints → Named (get_or s.constraints j d).tag.other
  pub minuses : (d : Edit) (j : ℕ) → j < length s.edits → Named (get_or s.edits j d).tag.other

-- ---- a conjunction's parts

pub and_left : (a b : Bool) → a && b ≡ true → a ≡ true
and_left true b h = refl
and_left false b h = h

pub and_right : (a b : Bool) → a && b ≡ true → b ≡ true
and_right true b h = h
and_right false true h = refl
and_right false false h = h

pub both : (a b : Bool) → a && b ≡ true → (a ≡ true) × (b ≡ true)
both a b h = (and_left a b h, and_right a b h)

pub lengths : (t : Tables) → lengths_right t ≡ true → Lengths t
unfolding lengths_right
lengths t h =
    let d = both _ _ h in
    let c = both _ _ d.0 in
    let b = both _ _ c.0 in
    (eqb-true _ _ b.0, eqb-true _ _ b.1, eqb-true _ _ c.1, eqb-true _ _ d.1)

pub lengths-right : (t : Tables) → Lengths t → lengths_right t ≡ true
unfolding lengths_right
lengths-right t h = rw (eq-eqb _ _ h.0, eq-eqb _ _ h.1, eq-eqb _ _ h.2, eq-eqb _ _ h.3) refl
