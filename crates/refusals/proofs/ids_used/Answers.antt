use mathlib.Core.Path.{refl}
use Rattle.refusals.specs.Refusals.{ids_used_in}
use Rattle.refusals.proofs.ids_used.Goals as goal

pub returns : goal.returns
unfolding ids_used_in
returns c = refl
