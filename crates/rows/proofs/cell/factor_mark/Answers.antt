use Rattle.rows.specs.Marks.{mark_of}
use Rattle.steps.specs.Number.{one64}
use Rattle.steps.specs.Row.{factor_mark}
use Rattle.rows.proofs.cell.factor_mark.Goals as goal

pub returns : goal.returns
unfolding mark_of factor_mark one64
returns c = rw (c.is_finite.ensures, c.magnitude.ensures)
