-- Between two calls of a whole run: the values by columns, and that they are the theory's best. Assumes nothing.
use Rattle.std.specs.Prelude.{◌≡◌, ◌≢◌, ℕ, ℤ}
use Rattle.std.proofs.Common.{◌∙◌, arith}
use mathlib.Core.List.{map}
use Rattle.std.proofs.Math.Option.{none}
use Rattle.simplex.specs.Ord.{1ℤ}
use Rattle.simplex.specs.Lin.{Vec, δ-same}
use Rattle.simplex.specs.At.{at}
use Rattle.simplex.proofs.Final.{dragged}
use Rattle.steps.specs.Changes.{find_variable}
use Rattle.run.specs.Demand.{Moment}
use Rattle.run.specs.Inv.{columns, con_of, Inv}

module _ (m : Moment) (I : Inv m) where
  abbrev pub Known : ℕ → Type 0
  Known v = find_variable v m.state.changes.variables ≢ none

  -- ---- the demands, read by columns

  pub one : I.table.R 0 0 ≡ 1ℤ
  one = I.good.shape.unit 0 I.good.shape.const 0 ∙ δ-same 0

  pub best-columns : Rattle.simplex.specs.Final.Best columns (map (con_of I.sym) I.held) (λ j. I.table.R j 0)
  best-columns =
      dragged columns I.kind (map (con_of I.sym) I.held) I.table (omega arith)
      (record {
        zero = I.good.zero;
        consts = I.good.consts;
        shape = I.good.shape;
        clear = I.good.clear;
        costs = I.rest;
        no-vars = I.good.no-vars;
        dummies = I.good.dummies;
        still-dummies = I.good.still-dummies;
      })
      I.models I.good.no-var I.good.feasible

  -- an assignment by fractions, by columns: column 0 is the denominator
  unfoldable pub spread : ℤ → (ℕ → ℤ) → Vec
  spread d x = at 0 d (λ j. x (I.name j))
