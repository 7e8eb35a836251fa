use native.Mathlib.Omega.{arith}
use Rattle.steps.specs.Number.{zero64}
use Rattle.layout.specs.cells.Cells.{cells}
use Rattle.layout.specs.cells.Pack.{put_on, put-off}
use Rattle.std.proofs.Common.{rules}
use Rattle.layout.proofs.cells.row.put_if.Goals as goal

pub returns-then-x : goal.returns-then-x
unfolding zero64
returns-then-x g c = record { result_after = put_on _ _ (cells _ _ _) c.if-x.true; upper_bound = search rules }

pub returns : goal.returns
unfolding zero64
returns g c = record { result_after = put-off _ _ (cells _ _ _) c.if-x.false; upper_bound = omega arith }
