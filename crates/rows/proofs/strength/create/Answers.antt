use Rattle.steps.specs.Strength.{create, medium, strong}
use Rattle.rows.proofs.strength.create.Goals as goal

pub returns : goal.returns
unfolding create strong medium
returns c = rw (c.held_part.ensures, c.held_part-2.ensures, c.held_part-3.ensures)
