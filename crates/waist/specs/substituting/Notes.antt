-- The notes of changed variables, over the words and the bytes.
use Rattle.std.specs.Prelude.{ℕ, ◌+◌, ◌*◌, ◌≡◌, refl, Bool, true, false, not, ◌&&◌, cond, List, eqb, Float, get_or, set}
use Rattle.std.proofs.Common.{sym, arith, get_or-set_other, eq-eqb, ne_eqb}
use Rattle.std.specs.Float.Ieee.{ne}
use Rattle.laws.specs.Loops.{run, map_in}
use Rattle.steps.specs.Number.{zero64, ◌*₆₄◌}
use Rattle.steps.specs.Symbol.{External, Slack, Error, Dummy, is_external, absent}
use Rattle.layout.specs.Layout.{kind_of}
use Rattle.sparse.specs.Places.{variable_count_at, should_clear_at, kinds_at, row_places_at, variable_places_at, changed_at}
use Rattle.layout.specs.cells.Names.{row_span}
use Rattle.layout.specs.cells.Cells.{cell_at}

pub record Noted : Type 0 where
  pub words : List ℕ
  pub bytes : List ℕ

abbrev pub noted : List ℕ → List ℕ → Noted
noted w b = record { words = w; bytes = b }

unfoldable pub flag_turn : ℕ → ℕ → List ℕ → List ℕ
flag_turn p v b = cond (eqb p (get_or b (variable_places_at + v) 0)) (set b (changed_at + v) 1) b

unfoldable pub flagged_in : ℕ → ℕ → List ℕ → List ℕ
flagged_in p count b = run (flag_turn p) 0 count b

unfoldable pub cleared_if : Bool → ℕ → List ℕ → List ℕ
cleared_if on count b = cond on (map_in (λ _. 0) changed_at (changed_at + count) b) b

-- the crate's var_changed, of the variable whose symbol stands at place p
unfoldable pub var_changed_at : ℕ → Noted → Noted
var_changed_at p s =
    noted (set s.words should_clear_at 0) (flagged_in p (get_or s.words variable_count_at 0) (cleared_if (eqb (get_or s.words should_clear_at 0) 1) (get_or s.words variable_count_at 0) s.bytes))

unfoldable pub var_changed_if : Bool → ℕ → Noted → Noted
var_changed_if on p s = cond on (var_changed_at p s) s

unfoldable pub is_external_kind : ℕ → Bool
is_external_kind k = is_external (record { id = 0; kind = kind_of k })

-- whether a row whose cell is k gets another constant from a row whose constant is y
unfoldable pub changes : Float → Float → Bool
changes k y = cond (absent k) false (ne (y *₆₄ k) zero64)

-- "An External row whose constant changed is noted"
unfoldable pub note_row : ℕ → Float → ℕ → List ℕ → List Float → ℕ → Noted → Noted
note_row at y n keys vals i s =
    let p : ℕ = get_or s.bytes (row_places_at + i) 0 in
    var_changed_if (is_external_kind (get_or s.bytes (kinds_at + p) 0) && changes (cell_at keys vals n (i * row_span + at)) y) p s

unfoldable pub note_rows : ℕ → Float → ℕ → List ℕ → List Float → ℕ → Noted → Noted
note_rows at y n keys vals count s = run (note_row at y n keys vals) 1 (count + 1) s

-- ---- the code's turns, over variables

pub external-kind : (k : ℕ) → is_external_kind k ≡ (not (eqb k 1) && not (eqb k 2) && not (eqb k 3))
unfolding is_external_kind kind_of is_external
external-kind k = go (eqb k 2) (eqb k 1) (eqb k 3)
  where
    go : (a b c : Bool) → is_external (record { id = 0; kind = cond a Error (cond b Slack (cond c Dummy External)) }) ≡ (not b && not a && not c)
    go true true c = refl
    go true false c = refl
    go false true c = refl
    go false false true = refl
    go false false false = refl

pub flag-on : (p v : ℕ) (b : List ℕ) → get_or b (variable_places_at + v) 0 ≡ p → set b (changed_at + v) 1 ≡ flag_turn p v b
unfolding flag_turn
flag-on p v b e = rw (eq-eqb p (get_or b (variable_places_at + v) 0) (sym e))

pub flag_off : (p v : ℕ) (b : List ℕ) → (get_or b (variable_places_at + v) 0 ≡ p → ⊥) → b ≡ flag_turn p v b
unfolding flag_turn
flag_off p v b e = rw (ne_eqb p (get_or b (variable_places_at + v) 0) (λ q. e (sym q)))

pub note-turn : (at : ℕ) (y : Float) (n : ℕ) (keys : List ℕ) (vals : List Float) (i : ℕ) (w b : List ℕ) {on : Bool} {k : Float} {x : ℕ} {t : Noted}
    → k ≡ cell_at keys vals n (i * row_span + at) → x ≡ get_or b (kinds_at + get_or b (row_places_at + i) 0) 0 → on ≡ (is_external_kind x && changes k y)
    → t ≡ var_changed_if on (get_or b (row_places_at + i) 0) (noted w b) → t ≡ note_row at y n keys vals i (noted w b)
unfolding note_row
note-turn at y n keys vals i w b e f h q = rw (← e, ← f, ← h) q

pub noted-count : (on : Bool) (p : ℕ) (s : Noted) → get_or (var_changed_if on p s).words variable_count_at 0 ≡ get_or s.words variable_count_at 0
unfolding var_changed_if var_changed_at
noted-count true p s = get_or-set_other s.words should_clear_at variable_count_at 0 0 (omega arith)
noted-count false p s = refl
