use Rattle.refusals.specs.Refusals.{edited_in}
use Rattle.refusals.proofs.is_edited.Goals as goal

pub returns : goal.returns
unfolding edited_in
returns c = c.edit_in.ensures
