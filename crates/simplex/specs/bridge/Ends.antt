-- Demands 2 and 3 for an optimise pass of the steps: what a pass that keeps its mark may answer.
use Rattle.std.specs.Prelude.{◌≡◌, ◌≢◌, List, map, ℕ, ◌<◌, length, Float}
use Rattle.std.proofs.Math.Option.{none, some}
use Rattle.laws.specs.exact.Whole.{IsZ}
use Rattle.simplex.specs.Lin.{Vec}
use Rattle.simplex.specs.Choose.{choose, trues}
use Rattle.simplex.specs.Opt.{Kind as KindZ, slack}
use Rattle.simplex.specs.Pass.{State}
use Rattle.simplex.specs.Bound.{Mem}
use Rattle.simplex.specs.Search.{Asc}
use Rattle.simplex.specs.Problem.{Con}
use Rattle.simplex.specs.Final.{Best}
use Rattle.steps.specs.Number.{zero64}
use Rattle.steps.specs.State.{Basic}
use Rattle.steps.specs.Work.{Work, Outcome, refused, going, find_row}

-- ---- the value of a column: its row's constant, or 0.0
unfoldable pub value_at : ℕ → List Basic → Float
value_at j bs = elim (find_row j bs) [ none ↦ zero64 | some r ↦ r.constant ]

module _ (n : ℕ) (kind : ℕ → KindZ) (ids : List ℕ) (asc : Asc ids) (cover : (j : ℕ) → kind j ≡ slack → Mem j ids) (inside : (j : ℕ) → Mem j ids → j < n) where
  -- an accepted pass on the objective: the steps' values are whole numbers, meet every required constraint and have the least error
  pub record Whole-best (cs : List Con) (x : Work) : Type 0 where
    pub values : Vec
    pub are : (j : ℕ) → j ≢ 0 → IsZ (value_at j x.tableau.rows) (values j)
    pub best : Best n cs values

  -- what a pass that keeps the mark may answer: the best values; or 14, after fewer pivots than there are ways to choose a basis. 15 and 13 it never gives
  abbrev pub Verdict : ℕ → State → List Con → List ℕ → Outcome Work → Type 0
  Verdict left S cs rs (going x) = Whole-best cs x
  Verdict left S cs rs (refused k p t) = (k ≡ 14) × (left < choose (length rs) (trues (map S.B rs)))
