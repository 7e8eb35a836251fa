use Rattle.steps.specs.Number.{zero64}
use Rattle.rows.specs.choose.Better.{better-on, better-off}
use Rattle.waist.proofs.ratios.dual_better.Goals as goal

pub returns-then-is_dummy-cell : goal.returns-then-is_dummy-cell
unfolding zero64
returns-then-is_dummy-cell c = better-on _ _ _ (rw (← c.is_dummy.ensures) c.if-is_dummy-cell.true) c.better.ensures

pub returns-else-is_dummy-cell : goal.returns-else-is_dummy-cell
unfolding zero64
returns-else-is_dummy-cell c = better-off _ _ _ (rw (← c.is_dummy.ensures) c.if-is_dummy-cell.false)
