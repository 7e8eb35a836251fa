-- The constants that a suggestion shifts, row by row, and the notes of the Externals among them.
use Rattle.std.specs.Prelude.{ℕ, ◌+◌, ◌*◌, ◌≡◌, Bool, true, false, not, ◌&&◌, cond, List, eqb, Float, get_or, set, Option as Given, Some, None}
use Rattle.std.proofs.Math.Path.{refl}
use Rattle.std.proofs.Common.{sym, eq-eqb, ne_eqb}
use Rattle.std.proofs.Math.Option.{Option, none, some}
use Rattle.std.specs.Float.{nan}
use Rattle.std.specs.Float.Ieee.{ne}
use Rattle.std.specs.Bool.{then_some}
use Rattle.laws.specs.Loops.{run}
use Rattle.steps.specs.Number.{zero64, constant_bound, ◌+₆₄◌, ◌*₆₄◌, Mark, all_whole, worse, mark_write}
use Rattle.steps.specs.Symbol.{absent}
use Rattle.rows.specs.Marks.{worse-unit}
use Rattle.sparse.specs.Places.{kinds_at, row_places_at, constants_at}
use Rattle.layout.specs.cells.Names.{row_span}
use Rattle.layout.specs.cells.Cells.{cell_at}
use Rattle.waist.specs.substituting.Notes.{Noted, noted, var_changed_if, is_external_kind}
use Rattle.optimising.specs.declared.suggestion.shifting.Drag.{Drag}

unfoldable pub gets : Bool → Float → Option Float
gets on x = cond on (some x) none

unfoldable pub optional : Given Float → Option Float
optional None = none
optional (Some x) = some x

pub given : (on : Bool) (x : Float) → optional (then_some on x) ≡ gets on x
unfolding optional gets
given true x = refl
given false x = refl

-- the row of the symbol at place p gets x
abbrev pub own_row : ℕ → Float → Drag
own_row p x = record { own = p; at = 0; by = x }

-- each row gets x times its cell at place p
abbrev pub by_cells : ℕ → Float → Drag
by_cells p x = record { own = 0; at = p; by = x }

-- what row i gets, whose symbol stands at place p
unfoldable pub shift_by : Drag → ℕ → List ℕ → List Float → ℕ → ℕ → Option Float
shift_by d n keys vals p i =
    cond (eqb d.own 0) (gets (not (absent (cell_at keys vals n (i * row_span + d.at)))) (d.by *₆₄ cell_at keys vals n (i * row_span + d.at))) (gets (eqb d.own p) d.by)

-- ---- one row, by what it gets

unfoldable pub changes_by : Option Float → Bool
changes_by none = false
changes_by (some x) = ne x zero64

unfoldable pub shift_reals : Option Float → ℕ → List Float → List Float
shift_reals none i r = r
shift_reals (some x) i r = set r (constants_at + i) (get_or r (constants_at + i) nan +₆₄ x)

unfoldable pub shift_mark : Option Float → ℕ → List Float → Mark
shift_mark none i r = all_whole
shift_mark (some x) i r = mark_write constant_bound (get_or r (constants_at + i) nan +₆₄ x)

-- ---- all rows

-- the notes, the reals and the mark so far
pub record Shifted : Type 0 where
  pub notes : Noted
  pub reals : List Float
  pub mark : Mark

abbrev pub shifted : Noted → List Float → Mark → Shifted
shifted n r a = record { notes = n; reals = r; mark = a }

-- "A product that isn't zero notes an External."
unfoldable pub shift_turn : Drag → ℕ → List ℕ → List Float → ℕ → Shifted → Shifted
shift_turn d n keys vals i s =
    let p : ℕ = get_or s.notes.bytes (row_places_at + i) 0 in
    let o : Option Float = shift_by d n keys vals p i in
    shifted (var_changed_if (is_external_kind (get_or s.notes.bytes (kinds_at + p) 0) && changes_by o) p s.notes) (shift_reals o i s.reals) (worse s.mark (shift_mark o i s.reals))

unfoldable pub shift_rows_in : Drag → ℕ → List ℕ → List Float → ℕ → Shifted → Shifted
shift_rows_in d n keys vals count s = run (shift_turn d n keys vals) 1 (1 + count) s

-- a turn of the code, over variables
pub shift-turn : (d : Drag) (n : ℕ) (keys : List ℕ) (vals : List Float) (i : ℕ) (w b : List ℕ) (r : List Float) (a : Mark) {o : Option Float} {k : ℕ} {on : Bool} {t : Noted} {r' : List Float} {m : Mark}
    → o ≡ shift_by d n keys vals (get_or b (row_places_at + i) 0) i → k ≡ get_or b (kinds_at + get_or b (row_places_at + i) 0) 0 → on ≡ (is_external_kind k && changes_by o) → t ≡ var_changed_if on (get_or b (row_places_at + i) 0) (noted w b)
    → m ≡ worse a (shift_mark o i r) → r' ≡ shift_reals o i r → shifted t r' m ≡ shift_turn d n keys vals i (shifted (noted w b) r a)
unfolding shift_turn
shift-turn d n keys vals i w b r a e f g h m q = rw (q, m, h, g, f, e) refl

module _ (d : Drag) (n : ℕ) (keys : List ℕ) (vals : List Float) (p i : ℕ) where
  pub cells-shift : {c : Float} → d.own ≡ 0 → c ≡ cell_at keys vals n (i * row_span + d.at) → gets (ne c zero64) (d.by *₆₄ c) ≡ shift_by d n keys vals p i
  unfolding shift_by ne absent
  cells-shift e f = rw (eq-eqb d.own 0 e, f) refl

  pub own-shift : (d.own ≡ 0 → ⊥) → gets (eqb d.own p) d.by ≡ shift_by d n keys vals p i
  unfolding shift_by
  own-shift e = rw (ne_eqb d.own 0 e) refl

-- what one row gets, as the code has it
pub shift-some : (o : Given Float) (x : Float) (i : ℕ) (r : List Float) (a : Mark) {y : Float} {m n : Mark} → o ≡ Some x → y ≡ get_or r (constants_at + i) nan +₆₄ x → m ≡ mark_write constant_bound y → n ≡ worse a m
    → (n ≡ worse a (shift_mark (optional o) i r)) × (set r (constants_at + i) y ≡ shift_reals (optional o) i r)
unfolding shift_mark shift_reals optional
shift-some o x i r a e f g h = rw (e, h, g, f) (refl, refl)

pub shift_none : (o : Given Float) (i : ℕ) (r : List Float) (a : Mark) → o ≡ None → (a ≡ worse a (shift_mark (optional o) i r)) × (r ≡ shift_reals (optional o) i r)
unfolding shift_mark shift_reals optional
shift_none o i r a e = rw e (sym (worse-unit a), refl)
