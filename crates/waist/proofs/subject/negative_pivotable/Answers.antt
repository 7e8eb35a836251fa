use Rattle.steps.specs.Number.{zero64, below_zero}
use Rattle.waist.proofs.subject.negative_pivotable.Goals as goal

pub returns : goal.returns
unfolding below_zero zero64
returns c = rw c.is_pivotable.ensures
