use lib.Ieee.{ne}
use Rattle.steps.specs.Number.{zero64, below_zero}
use Rattle.steps.specs.Symbol.{absent, holds}
use Rattle.waist.specs.Looks.{seen}
use Rattle.waist.proofs.looks.is_seen.Goals as goal

pub returns-then-below : goal.returns-then-below
unfolding seen below_zero zero64
returns-then-below c = rw c.if-below.true

pub returns : goal.returns
unfolding seen holds absent zero64 ne
returns c = rw c.if-below.false
