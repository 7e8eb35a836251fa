use Rattle.addition.specs.creation.Created.{started-is}
use Rattle.addition.proofs.creation.create.start_row.Goals as goal

pub returns : goal.returns
returns c = started-is _ _ _ c.zero_cells.ensures
