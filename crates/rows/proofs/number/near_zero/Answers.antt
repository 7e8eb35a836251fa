use Rattle.steps.specs.Number.{near_zero}
use Rattle.rows.proofs.number.near_zero.Goals as goal

pub returns : goal.returns
unfolding near_zero
returns c = rw c.magnitude.ensures
