-- Ratio tests over the sparse tables: down a column, and along a dense row. What they find is what the steps find on what the tables read as.
-- Assumes nothing.
use Prim.Native.Nat.{ℕ, suc, ◌+◌, ◌-◌, ◌*◌, ◌≤◌}
use Rattle.std.specs.Prelude.{◌≡◌, refl, Bool, true, false, not, ◌&&◌}
use Rattle.std.proofs.Common.{sym, ◌∙◌}
use mathlib.Core.List.{List, ◌∷◌}
use Rattle.std.proofs.Math.Option.{none, some}
use native.Mathlib.Omega.{arith}
use Rattle.std.specs.Float.Ieee.{Float, nan, lt, neg}
use Rattle.std.proofs.Math.ListN.{get_or}
use Rattle.laws.specs.Loops.{run}
use Rattle.laws.specs.Lists.{tab, length-tab, get_or-tab}
use Rattle.steps.specs.Number.{zero64, ◌/₆₄◌, below_zero}
use Rattle.steps.specs.Symbol.{is_external, is_restricted, is_dummy, coefficient_for}
use Rattle.steps.specs.State.{Basic}
use Rattle.steps.specs.Optimise.{Candidate, smallest_ratio, negative_ratios, dual_ratios}
use Rattle.steps.specs.Remove.{cell_in, positive_ratios}
use Rattle.layout.specs.Layout.{cells_of}
use Rattle.layout.specs.Laying.{tab-from}
use Rattle.rows.specs.Place.{coefficient-at}
use Rattle.rows.specs.choose.Choose.{Found}
use Rattle.rows.specs.choose.Choose.{on_found, Least, no_best, better_of, found_of, smallest_of}
use Rattle.rows.specs.choose.Chosen.{as-cond}
use Rattle.rows.specs.choose.Walk.{smallest-walk}
use Rattle.sparse.specs.Places.{symbol_count_at, kinds_at, row_places_at, constants_at, objective_at}
use Rattle.sparse.specs.Sparse.{Sparse, symbol_count, row_count, cell_count, symbol_at, basic_of, symbols_of, basics_of, objective_of}
use Rattle.sparse.specs.Widths.{symbols-read}
use Rattle.layout.specs.cells.Names.{row_span}
use Rattle.layout.specs.cells.Cells.{cell_at, row_of}
use Rattle.waist.specs.substituting.Notes.{is_external_kind}
use Rattle.waist.specs.Working.{Sound, dense-cells, live-place}
use Rattle.waist.specs.Standing.{row_symbol}
use Rattle.waist.specs.Choosing.{is_dummy_kind}

-- ---- down a column

-- row i's cell at place p
unfoldable pub column_at : Sparse → ℕ → ℕ → Float
column_at t p i = cell_at t.keys t.values (cell_count t) (i * row_span + p)

abbrev pub row_kind : Sparse → ℕ → ℕ
row_kind t i = get_or t.bytes (kinds_at + get_or t.bytes (row_places_at + i) 0) 0

-- "negative cell", "-constant/cell"; "positive cell", "constant/cell"
unfoldable pub signed : Bool → Float → Bool
signed true x = below_zero x
signed false x = lt zero64 x

unfoldable pub over : Bool → Float → Float
over true x = neg x
over false x = x

unfoldable pub ratio_turn : Bool → ℕ → Sparse → ℕ → Least → Least
ratio_turn down p t i b = better_of i (not (is_external_kind (row_kind t i)) && signed down (column_at t p i)) (over down (get_or t.reals (constants_at + i) nan) /₆₄ column_at t p i) b

unfoldable pub ratio_row_of : Bool → ℕ → Sparse → Found
ratio_row_of down p t = found_of (row_count t) (run (ratio_turn down p t) 1 (1 + row_count t) no_best)

-- the code's turn, over variables
pub ratio-turn : (down : Bool) (p : ℕ) (t : Sparse) (i : ℕ) (b : Least) {k : ℕ} {c : Float} {z : Least} → k ≡ row_kind t i → c ≡ cell_at t.keys t.values (cell_count t) (i * row_span + p)
    → z ≡ better_of i (not (is_external_kind k) && signed down c) (over down (get_or t.reals (constants_at + i) nan) /₆₄ c) b → z ≡ ratio_turn down p t i b
unfolding ratio_turn column_at
ratio-turn down p t i b e f h = rw (← e, ← f) h

module _ (t : Sparse) (p : ℕ) (at : (i : ℕ) → coefficient_for (symbol_at t p).id (symbols_of t) (basic_of t i).row.cells ≡ column_at t p i) where
  abbrev basics : ℕ → ℕ → List Basic
  basics i k = tab (λ j. basic_of t (1 + j)) i k

  abbrev cell : ℕ → Float
  cell i = coefficient_for (symbol_at t p).id (symbols_of t) (basic_of t i).row.cells

  pub negative-chosen : smallest_ratio (negative_ratios (symbol_at t p).id (symbols_of t) (basics_of t)) ≡ on_found (λ i. some (row_symbol t i)) none (ratio_row_of true p t)
  unfolding ratio_row_of smallest_of ratio_turn signed over basics_of tab negative_ratios is_restricted is_external_kind is_external symbol_at basic_of
  negative-chosen =
      let look : ℕ → ℕ → List Candidate = λ i k. negative_ratios (symbol_at t p).id (symbols_of t) (basics i k) in
      let r : ℕ → Float = λ i. neg (get_or t.reals (constants_at + i) nan) /₆₄ column_at t p i in
      rw (← tab-from (basic_of t) 1 0 (row_count t))
      (smallest-walk (λ i. row_symbol t i) r (row_count t) (λ i. is_restricted (row_symbol t i) && below_zero (column_at t p i)) look
      (λ i. refl)
      (λ i k.
      let b : 1 + i ≡ suc i = omega arith in
      rw b (as-cond (is_restricted (row_symbol t (suc i)) && below_zero (cell (suc i))) (record { symbol = row_symbol t (suc i); ratio = neg (get_or t.reals (constants_at + suc i) nan) /₆₄ cell (suc i) } ∷ look (suc i) k) (look (suc i) k)
      ∙ (rw (at (suc i)) refl))))

  pub positive-chosen : smallest_ratio (positive_ratios (symbol_at t p).id (symbols_of t) (basics_of t)) ≡ on_found (λ i. some (row_symbol t i)) none (ratio_row_of false p t)
  unfolding ratio_row_of smallest_of ratio_turn signed over basics_of tab positive_ratios cell_in is_restricted is_external_kind is_external symbol_at basic_of
  positive-chosen =
      let look : ℕ → ℕ → List Candidate = λ i k. positive_ratios (symbol_at t p).id (symbols_of t) (basics i k) in
      let r : ℕ → Float = λ i. get_or t.reals (constants_at + i) nan /₆₄ column_at t p i in
      rw (← tab-from (basic_of t) 1 0 (row_count t))
      (smallest-walk (λ i. row_symbol t i) r (row_count t) (λ i. is_restricted (row_symbol t i) && lt zero64 (column_at t p i)) look
      (λ i. refl)
      (λ i k.
      let b : 1 + i ≡ suc i = omega arith in
      rw b (as-cond (is_restricted (row_symbol t (suc i)) && lt zero64 (cell (suc i))) (record { symbol = row_symbol t (suc i); ratio = get_or t.reals (constants_at + suc i) nan /₆₄ cell (suc i) } ∷ look (suc i) k) (look (suc i) k)
      ∙ (rw (at (suc i)) refl))))

-- the cell of a live symbol stands at its place
pub column-reads : (art : Bool) (t : Sparse) → Sound art t → (p : ℕ) → 1 ≤ p → p ≤ symbol_count t → (i : ℕ) → coefficient_for (symbol_at t p).id (symbols_of t) (basic_of t i).row.cells ≡ column_at t p i
unfolding column_at basic_of row_of
column-reads art t so p low high i =
    let q : 1 + (p - 1) ≡ p = omega (arith, low) in
    let j = live-place t so.named (p - 1) (omega (arith, low, high)) in
    rw q at (coefficient-at (symbol_at t (1 + (p - 1))).id (symbols_of t) (p - 1) (tab (λ x. cell_at t.keys t.values (cell_count t) (i * row_span + x)) 1 (symbol_count t)) nan j (length-tab _ 1 (symbol_count t) ∙ sym (symbols-read t))
    ∙ get_or-tab (λ x. cell_at t.keys t.values (cell_count t) (i * row_span + x)) 1 (symbol_count t) (p - 1) nan (omega (arith, low, high)))

-- ---- along a dense row, with the objective

-- "the non-dummy positive cell with strictly smallest objective cell / cell, the lowest id on a tie"
unfoldable pub dual_turn : List ℕ → List Float → List Float → ℕ → Least → Least
dual_turn bytes reals row p b = better_of p (not (is_dummy_kind (get_or bytes (kinds_at + p) 0)) && lt zero64 (get_or row p nan)) (get_or reals (objective_at + p) nan /₆₄ get_or row p nan) b

unfoldable pub dual_entering_of : List ℕ → List ℕ → List Float → List Float → Found
dual_entering_of words bytes reals row = found_of (get_or words symbol_count_at 0) (run (dual_turn bytes reals row) 1 (1 + get_or words symbol_count_at 0) no_best)

pub dual-turn : (bytes : List ℕ) (reals row : List Float) (p : ℕ) (b : Least) {z : Least} → z ≡ better_of p (not (is_dummy_kind (get_or bytes (kinds_at + p) 0)) && lt zero64 (get_or row p nan)) (get_or reals (objective_at + p) nan /₆₄ get_or row p nan) b → z ≡ dual_turn bytes reals row p b
unfolding dual_turn
dual-turn bytes reals row p b h = h

pub dual-chosen : (t : Sparse) (row : List Float) → smallest_ratio (dual_ratios (symbols_of t) (cells_of (symbol_count t) row) (objective_of t)) ≡ on_found (λ p. some (symbol_at t p)) none (dual_entering_of t.words t.bytes t.reals row)
unfolding dual_entering_of smallest_of dual_turn symbols_of objective_of tab dual_ratios is_dummy_kind is_dummy symbol_at
dual-chosen t row =
    let look : ℕ → ℕ → List Candidate = λ i k. dual_ratios (tab (λ j. symbol_at t (1 + j)) i k) (tab (λ j. get_or row (1 + j) nan) i k) (tab (λ j. get_or t.reals (objective_at + (1 + j)) nan) i k) in
    let r : ℕ → Float = λ p. get_or t.reals (objective_at + p) nan /₆₄ get_or row p nan in
    rw (dense-cells (symbol_count t) row, ← tab-from (symbol_at t) 1 0 (symbol_count t), ← tab-from (λ p. get_or row p nan) 1 0 (symbol_count t), ← tab-from (λ p. get_or t.reals (objective_at + p) nan) 1 0 (symbol_count t))
    (smallest-walk (λ p. symbol_at t p) r (symbol_count t) (λ p. not (is_dummy (symbol_at t p)) && lt zero64 (get_or row p nan)) look
    (λ i. refl)
    (λ i k.
    let b : 1 + i ≡ suc i = omega arith in
    rw b (as-cond (not (is_dummy (symbol_at t (suc i))) && lt zero64 (get_or row (suc i) nan)) (record { symbol = symbol_at t (suc i); ratio = r (suc i) } ∷ look (suc i) k) (look (suc i) k))))
