use mathlib.Core.Path.{refl}
use Rattle.lending.specs.Entered.{bare_words}
use Rattle.solver.proofs.again.bare.Goals as goal

pub returns : goal.returns
unfolding bare_words
returns c = refl
