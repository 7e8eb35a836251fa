use mathlib.Core.Path.{refl}
use Rattle.waist.specs.Ending.{checked_of}
use Rattle.waist.proofs.ending.check_finite.Goals as goal

pub returns-then-wrote : goal.returns-then-wrote
unfolding checked_of
returns-then-wrote c = rw c.if-wrote.true refl

pub returns : goal.returns
unfolding checked_of
returns c = rw c.if-wrote.false refl
