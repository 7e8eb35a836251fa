-- The code's choices are the steps', on what the tables read as.
-- Assumes nothing.
use Rattle.std.specs.Prelude.{ℕ, ◌+◌, ◌≤◌, ◌≡◌, Bool, Float}
use Rattle.std.proofs.Math.Path.{sym, ap}
use Rattle.std.proofs.Common.{◌∙◌}
use Rattle.std.proofs.Math.Bool.{true, false}
use Rattle.std.proofs.lemmas.Bool.{false≢true}
use mathlib.Core.List.{List}
use Rattle.std.proofs.Math.Option.{Option, none, some}
use Rattle.steps.specs.Number.{Mark}
use Rattle.steps.specs.Symbol.{Symbol, first_symbol}
use Rattle.steps.specs.Optimise.{goal_cells, get_entering_symbol, get_leaving_row, get_dual_entering_symbol}
use Rattle.steps.specs.Artificial.{any_pivotable_symbol, is_empty_row}
use Rattle.steps.specs.Remove.{get_marker_leaving_row}
use Rattle.rows.specs.choose.Choose.{Found}
use Rattle.rows.specs.declared.choose.Want.TheVariants as want
use Rattle.rows.specs.choose.Choose.{Within, on_found, wants, is_nothing}
use Rattle.rows.specs.choose.Steps.{picked, on_some}
use Rattle.sparse.specs.Sparse.{Sparse, symbol_count, row_count, symbol_at, basic_of, symbols_of, read}
use Rattle.waist.specs.Working.{artificial_of, work_of, Sound}
use Rattle.waist.specs.Standing.{row_symbol, Chooses}
use Rattle.waist.specs.Choosing.{goal_of, entering_of, entering-reads}
use Rattle.waist.specs.Looks.{seen, look_of, look-chosen, Loads}
use Rattle.waist.specs.Ratios.{ratio_row_of, negative-chosen, column-reads, dual_entering_of, dual-chosen}

-- the symbol at the place found
abbrev pub named : Sparse → Found → Option Symbol
named t f = on_found (λ p. some (symbol_at t p)) none f

abbrev row_named : Sparse → Found → Option Symbol
row_named t f = on_found (λ i. some (row_symbol t i)) none f

-- ---- for a pass

module _ (t : Sparse) {r : Found} (within : Within (symbol_count t) r) where
  pub goal-objective : (art : Bool) → art ≡ false → r ≡ entering_of t.words t.bytes t.reals → Chooses art (get_entering_symbol (goal_of art)) (symbol_at t) (symbol_count t) t r
  goal-objective false e q = record { is = λ a v. entering-reads t false a v ∙ ap (named t) (sym q); within = within }
  goal-objective true e q = absurd (false≢true (sym e))

  -- the artificial objective is the line after the rows
  pub goal-artificial : (art : Bool) (row : List Float) → art ≡ true → Loads (1 + row_count t) t row → r ≡ look_of want.NonDummy true t.words t.bytes row → Chooses art (get_entering_symbol (goal_of art)) (symbol_at t) (symbol_count t) t r
  unfolding get_entering_symbol goal_cells work_of artificial_of read wants seen
  goal-artificial true row e l q = record { is = λ a v. rw (← l) (look-chosen t want.NonDummy true row ∙ ap (named t) (sym q)); within = within }
  goal-artificial false row e l q = absurd (false≢true e)

  pub dual-entering-chooses : (i : ℕ) (row : List Float) → Loads i t row → r ≡ dual_entering_of t.words t.bytes t.reals row → Chooses false (get_dual_entering_symbol (basic_of t i).row) (symbol_at t) (symbol_count t) t r
  unfolding get_dual_entering_symbol work_of read
  dual-entering-chooses i row l q = record { is = λ a v. rw (← l) (dual-chosen t row ∙ ap (named t) (sym q)); within = within }

pub leaving-chooses : (art : Bool) (t : Sparse) → Sound art t → (p : ℕ) → 1 ≤ p → p ≤ symbol_count t → {r : Found} → Within (row_count t) r → r ≡ ratio_row_of true p t → Chooses art (get_leaving_row (symbol_at t p)) (row_symbol t) (row_count t) t r
unfolding get_leaving_row work_of read
leaving-chooses art t so p low high within q = record { is = λ a v. negative-chosen t p (column-reads art t so p low high) ∙ ap (row_named t) (sym q); within = within }

-- ---- of a row

module _ (t : Sparse) (i : ℕ) (row : List Float) (l : Loads i t row) {r : Found} where
  pub pivotable-chooses : Within (symbol_count t) r → r ≡ look_of want.Pivotable false t.words t.bytes row → Chooses false (any_pivotable_symbol (basic_of t i).row) (symbol_at t) (symbol_count t) t r
  unfolding any_pivotable_symbol work_of read wants seen
  pivotable-chooses within q = record { is = λ a v. rw (← l) (look-chosen t want.Pivotable false row ∙ ap (named t) (sym q)); within = within }

  pub empty-is : {b : Bool} → r ≡ look_of want.Any false t.words t.bytes row → b ≡ is_nothing r → (a : Mark) (v : ℕ) → b ≡ is_empty_row (basic_of t i).row (work_of false a v t)
  unfolding is_empty_row work_of read wants seen
  empty-is q e a v =
      e ∙ ap is_nothing q
      ∙ sym (ap (λ (c : List Float). picked (λ (s : Symbol). false) true (first_symbol (wants want.Any) (seen false) (symbols_of t) c)) (sym l)
      ∙ ap (λ (o : Option Symbol). picked (λ (s : Symbol). false) true o) (look-chosen t want.Any false row)
      ∙ on_some (λ (s : Symbol). false) true (λ p. symbol_at t p) (look_of want.Any false t.words t.bytes row))

-- ---- of tables that are lent, as of those that a call holds

module _ {t u : Sparse} (e : t ≡ u) {r : Found} where
  pub entering-same : {art : Bool} → Chooses art (get_entering_symbol (goal_of art)) (symbol_at t) (symbol_count t) t r → Chooses art (get_entering_symbol (goal_of art)) (symbol_at u) (symbol_count u) u r
  entering-same h = rw (← e) h

  pub leaving-same : {art : Bool} (p : ℕ) → Chooses art (get_leaving_row (symbol_at t p)) (row_symbol t) (row_count t) t r → Chooses art (get_leaving_row (symbol_at u p)) (row_symbol u) (row_count u) u r
  leaving-same p h = rw (← e) h

  pub dual-entering-same : (i : ℕ) → Chooses false (get_dual_entering_symbol (basic_of t i).row) (symbol_at t) (symbol_count t) t r → Chooses false (get_dual_entering_symbol (basic_of u i).row) (symbol_at u) (symbol_count u) u r
  dual-entering-same i h = rw (← e) h

  pub pivotable-same : (i : ℕ) → Chooses false (any_pivotable_symbol (basic_of t i).row) (symbol_at t) (symbol_count t) t r → Chooses false (any_pivotable_symbol (basic_of u i).row) (symbol_at u) (symbol_count u) u r
  pivotable-same i h = rw (← e) h

  pub marker-same : (p : ℕ) → Chooses false (get_marker_leaving_row (symbol_at t p).id) (row_symbol t) (row_count t) t r → Chooses false (get_marker_leaving_row (symbol_at u p).id) (row_symbol u) (row_count u) u r
  marker-same p h = rw (← e) h

pub empty-same : {t u : Sparse} → t ≡ u → (i : ℕ) {b : Bool} → ((a : Mark) (v : ℕ) → b ≡ is_empty_row (basic_of t i).row (work_of false a v t)) → (a : Mark) (v : ℕ) → b ≡ is_empty_row (basic_of u i).row (work_of false a v u)
empty-same e i h a v = rw (← e) (h a v)
