use mathlib.Core.Path.{refl}
use Rattle.solver.specs.Closing.{says_yes}
use Rattle.solver.proofs.begin.says_yes.Goals as goal

pub returns : goal.returns
unfolding says_yes
returns c = refl
