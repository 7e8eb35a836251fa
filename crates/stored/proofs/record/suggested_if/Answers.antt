use mathlib.Core.Path.{refl}
use Rattle.stored.proofs.record.suggested_if.Goals as goal

pub returns-then-accepted : goal.returns-then-accepted
returns-then-accepted c = rw c.if-accepted.true refl
