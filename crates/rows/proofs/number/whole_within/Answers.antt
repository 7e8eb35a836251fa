use Rattle.steps.specs.Add.{whole_within}
use Rattle.rows.proofs.number.whole_within.Goals as goal

pub returns : goal.returns
unfolding whole_within
returns c = rw (c.is_whole.ensures, c.within.ensures)
