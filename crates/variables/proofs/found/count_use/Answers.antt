use mathlib.Core.Path.{refl}
use Rattle.variables.specs.Variables.{used_words}
use Rattle.variables.proofs.found.count_use.Goals as goal

pub returns : goal.returns
unfolding used_words
returns c = refl
