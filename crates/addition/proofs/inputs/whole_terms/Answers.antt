use mathlib.Core.Path.{refl, ap}
use mathlib.Core.Bool.{Bool, ◌&&◌}
use native.Mathlib.Omega.{arith}
use Rattle.laws.specs.Lists.{all-next, all-last}
use Rattle.steps.specs.Number.{cell_bound}
use Rattle.addition.specs.Inputs.{whole-terms}
use Rattle.addition.proofs.inputs.whole_terms.Goals as goal

pub loop-i-init : goal.loop-i-init
loop-i-init c = (refl, c.shown-n.ensures.upper_bound)

pub loop-i-preserved : goal.loop-i-preserved
unfolding cell_bound
loop-i-preserved c = (all-next _ _ _ _ (omega arith) (ap (λ (b : Bool). c.loop-i.ok && b) c.whole_within-ok.ensures) c.loop-i.invariant.0, c.loop-i.invariant.1)

pub returns : goal.returns
returns c = whole-terms _ c.shown-n.ensures.value (all-last _ _ _ _ (omega arith) c.loop-i.invariant.0)
