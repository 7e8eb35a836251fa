use Rattle.steps.specs.Number.{zero64}
use Rattle.steps.specs.Row.{goes_if_near_zero}
use Rattle.rows.proofs.cell.goes_if_near_zero.Goals as goal

pub returns-then-near_zero : goal.returns-then-near_zero
unfolding goes_if_near_zero zero64
returns-then-near_zero c = rw (← c.near_zero.ensures, c.if-near_zero.true)

pub returns-else-near_zero : goal.returns-else-near_zero
unfolding goes_if_near_zero zero64
returns-else-near_zero c = rw (← c.near_zero.ensures, c.if-near_zero.false)
