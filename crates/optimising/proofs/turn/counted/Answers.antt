use mathlib.Core.Path.{refl}
use Rattle.optimising.specs.Turn.{counted_of}
use Rattle.optimising.proofs.turn.counted.Goals as goal

pub returns-then-wrote : goal.returns-then-wrote
unfolding counted_of
returns-then-wrote c = rw c.if-wrote.true refl

pub returns : goal.returns
unfolding counted_of
returns c = rw c.if-wrote.false refl
