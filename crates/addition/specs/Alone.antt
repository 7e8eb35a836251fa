-- A row without a subject: its calls together are the steps' add_with_artificial_variable.
-- Assumes nothing.
use Rattle.std.specs.Prelude.{ℕ, ◌+◌, ◌-◌, ◌≡◌, List, eqb, Float}
use Rattle.std.proofs.Common.{sym, ◌∙◌}
use Rattle.std.proofs.Math.Path.{ap}
use Rattle.std.proofs.Math.Bool.{true, false}
use Rattle.steps.specs.Symbol.{Slack, Symbol}
use Rattle.steps.specs.Work.{Work, new_symbol}
use Rattle.steps.specs.Optimise.{optimise, the_artificial}
use Rattle.steps.specs.Artificial.{stand_temporary, add_with_artificial_variable}
use Rattle.rows.specs.declared.number.Wrote.{Wrote}
use Rattle.rows.specs.Marks.{mark_of}
use Rattle.sparse.specs.Sparse.{Sparse, symbol_count, symbol_at, symbols_of}
use Rattle.waist.specs.Working.{work_of}
use Rattle.waist.specs.Standing.{Makes}
use Rattle.waist.specs.Ending.{Ended, outcome_of, Goes, is-refused, refused-then, going-then, none_then}
use Rattle.waist.specs.Choosing.{goal_of}
use Rattle.addition.specs.Adding.{row_in, created_by, Temporary}
use Rattle.addition.specs.Symbols.{Alike, symbols-are, alike-by, temporary-alike, stood-temporary}
use Rattle.addition.specs.Kept.{optimise-kept, kept_at}
use Rattle.addition.specs.Removed.{closing_of}

module _ (past : Wrote) (t : Sparse) (row : List Float) (t₁ : Sparse)
    (stood : Makes false true (mark_of past) (mark_of past) (λ w. stand_temporary (new_symbol Slack w) (record { work = w; row = row_in t row })) t t₁) where
  abbrev before : Work
  before = work_of false (mark_of past) 0 t

  abbrev standing : Work
  standing = stand_temporary (new_symbol Slack before) (record { work = before; row = row_in t row })

  module _ (budget : ℕ) (x : Ended) (z₁ : Sparse) (passed : outcome_of true x z₁ ≡ optimise (budget - 0) (goal_of true) (work_of true (mark_of past) 0 t₁)) where
    pass-is : outcome_of true x z₁ ≡ optimise (budget - standing.pivots) the_artificial standing
    unfolding work_of
    pass-is = passed ∙ ap (λ (y : Work). optimise (budget - y.pivots) the_artificial y) (stood.reads 0)

    pub pass-refused : (marker other : ℕ) → eqb x.number 0 ≡ false → (outcome_of false x z₁ ≡ add_with_artificial_variable budget (created_by (mark_of past) marker other t row)) × Goes false x z₁
    unfolding add_with_artificial_variable
    pass-refused marker other off = (is-refused false x z₁ off ∙ refused-then true x z₁ _ (λ y. closing_of (new_symbol Slack before) y) off pass-is, none_then _ (eqb x.number 0) off)

    module _ (on : eqb x.number 0 ≡ true) {p : ℕ} (at : p ≡ 1 + symbol_count t) where
      -- the pass moves no symbol
      temporary-is : Temporary p z₁ × (symbol_at z₁ p ≡ new_symbol Slack before)
      temporary-is =
          let s = stood-temporary (mark_of past) 0 t t₁ (row_in t row) (stood.reads 0) in
          let e : symbols_of t₁ ≡ standing.tableau.symbols = sym (symbols-are true (mark_of past) 0 t₁) ∙ ap (λ (w : Work). w.tableau.symbols) (stood.reads 0) in
          let k : symbols_of z₁ ≡ standing.tableau.symbols = kept_at true x z₁ standing _ pass-is (optimise-kept (budget - standing.pivots) the_artificial standing) on in
          let a : Alike t₁ z₁ = alike-by t₁ z₁ (k ∙ sym e) in
          rw at (temporary-alike (1 + symbol_count t) t₁ z₁ a s.0, a.at (1 + symbol_count t) s.0.low s.0.high ∙ s.1)

      pub pass-temporary : Temporary p z₁
      pass-temporary = temporary-is.0

      pub pass-closed : (marker other : ℕ) (r : Ended) (z : Sparse) → outcome_of false r z ≡ closing_of (symbol_at z₁ p) (work_of true (mark_of x.wrote) x.pivots z₁) → Goes false r z
          → (outcome_of false r z ≡ add_with_artificial_variable budget (created_by (mark_of past) marker other t row)) × Goes false r z
      unfolding add_with_artificial_variable
      pass-closed marker other r z q g = (
        q ∙ ap (λ (y : Symbol). closing_of y (work_of true (mark_of x.wrote) x.pivots z₁)) temporary-is.1
            ∙ going-then true x z₁ _ (λ y. closing_of (new_symbol Slack before) y) on pass-is,
        g,
      )
