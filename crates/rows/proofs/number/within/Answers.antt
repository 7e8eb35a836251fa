use Rattle.steps.specs.Number.{within}
use Rattle.rows.proofs.number.within.Goals as goal

pub returns : goal.returns
unfolding within
returns c = rw c.magnitude.ensures
