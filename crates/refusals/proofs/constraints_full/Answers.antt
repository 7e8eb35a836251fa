use mathlib.Core.Path.{refl}
use Rattle.refusals.specs.Refusals.{constraints_full_in}
use Rattle.refusals.proofs.constraints_full.Goals as goal

pub returns : goal.returns
unfolding constraints_full_in
returns c = refl
