use mathlib.Core.Path.{refl}
use Rattle.layout.specs.Layout.{bit_of}
use Rattle.solver.proofs.begin.bit.Goals as goal

pub returns-then-b : goal.returns-then-b
unfolding bit_of
returns-then-b c = rw c.if-b.true refl

pub returns-else-b : goal.returns-else-b
unfolding bit_of
returns-else-b c = rw c.if-b.false refl
