use Rattle.rows.specs.Marks.{mark_of}
use Rattle.steps.specs.Number.{mark_write}
use Rattle.rows.proofs.number.mark_write.Goals as goal

pub returns : goal.returns
unfolding mark_of mark_write
returns c = rw (c.is_finite.ensures, c.within.ensures)
