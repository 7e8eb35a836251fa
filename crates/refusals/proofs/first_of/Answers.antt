use mathlib.Core.Path.{ap, ◌∙◌}
use mathlib.Core.Bool.{not}
use native.Mathlib.Omega.{arith}
use Rattle.refusals.specs.Refusals.{is_first_of}
use Rattle.refusals.proofs.Among.{turned, none_among}
use Rattle.refusals.proofs.first_of.Goals as goal

pub returns : goal.returns
unfolding is_first_of
returns c = ap not c.contains.ensures.value ∙ none_among _ _ c.args.p.vars 0 (λ j. ap not (turned _ _)) c.args.i (omega arith)
