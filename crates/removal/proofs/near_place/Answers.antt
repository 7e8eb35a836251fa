use mathlib.Core.Path.{sym}
use native.Mathlib.Omega.{arith}
use Rattle.waist.specs.Lowering.{near-after, near_before}
use Rattle.removal.proofs.near_place.Goals as goal

pub returns-then-p-q : goal.returns-then-p-q
returns-then-p-q c = sym (near-after _ _ c.if-p-q.true)

pub returns-else-p-q : goal.returns-else-p-q
returns-else-p-q c = sym (near_before _ _ (omega (arith, c.if-p-q.false)))
