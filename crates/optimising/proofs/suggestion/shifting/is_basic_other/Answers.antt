use Rattle.optimising.specs.suggestion.Drags.{other_found}
use Rattle.optimising.proofs.suggestion.shifting.is_basic_other.Goals as goal

pub returns : goal.returns
unfolding other_found
returns c = rw c.is_basic.ensures
