use mathlib.Core.Path.{refl, ◌∙◌}
use Rattle.solver.specs.Closing.{says-yes}
use Rattle.solver.proofs.begin.accepted.Goals as goal

pub returns : goal.returns
returns c = rw (c.says_yes-whole.ensures ∙ says-yes c.args.w.wrote) refl
