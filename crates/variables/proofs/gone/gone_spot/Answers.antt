use mathlib.Core.Path.{refl, ◌∙◌}
use native.Mathlib.Omega.{arith}
use borrow.Author.Tests.{le-leb, lt-leb}
use Rattle.laws.specs.Loops.{first_next, first-here, first-last}
use Rattle.variables.specs.Told.{gone_spot}
use Rattle.variables.proofs.gone.gone_spot.Goals as goal

pub loop-j-init : goal.loop-j-init
unfolding gone_spot
loop-j-init c = refl

pub returns-then-n-x : goal.returns-then-n-x
returns-then-n-x c = c.spot_at.ensures ∙ first-here _ _ _ _ _ (omega arith) (le-leb _ _ c.if-n-x.true) c.loop-j.invariant

pub loop-j-preserved : goal.loop-j-preserved
loop-j-preserved c = first_next _ _ _ _ _ (omega arith) (lt-leb _ _ c.if-n-x.false) c.loop-j.invariant

pub returns : goal.returns
returns c = first-last _ _ _ _ _ (omega arith) c.loop-j.invariant
