use lib.Ieee.{neg}
use Rattle.waist.specs.Ratios.{over}
use Rattle.waist.proofs.ratios.numerator.Goals as goal

pub returns-then-down : goal.returns-then-down
unfolding over neg
returns-then-down c = rw c.if-down.true

pub returns : goal.returns
unfolding over
returns c = rw c.if-down.false
