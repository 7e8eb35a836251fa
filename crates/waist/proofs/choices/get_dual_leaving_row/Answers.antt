use mathlib.Core.Path.{refl}
use native.Mathlib.Omega.{arith}
use Rattle.laws.specs.Loops.{first_next, first-here, first-last}
use Rattle.waist.specs.Choosing.{dual_leaving_of}
use Rattle.waist.specs.KindsRead.{external-read}
use Rattle.waist.proofs.choices.get_dual_leaving_row.Goals as goal

pub loop-i-init : goal.loop-i-init
unfolding dual_leaving_of
loop-i-init c = refl

pub returns-then-is_below : goal.returns-then-is_below
returns-then-is_below c = record { value = first-here _ _ _ _ _ (omega arith) (rw (← external-read _ _ (rw c.kind_at.ensures at c.from.ensures), ← c.is_below.ensures) c.if-is_below.true) c.loop-i.invariant; within = (omega arith, omega arith) }

pub loop-i-preserved : goal.loop-i-preserved
loop-i-preserved c = first_next _ _ _ _ _ (omega arith) (rw (← external-read _ _ (rw c.kind_at.ensures at c.from.ensures), ← c.is_below.ensures) c.if-is_below.false) c.loop-i.invariant

pub returns : goal.returns
returns c = record { value = first-last _ _ _ _ _ (omega arith) c.loop-i.invariant; within = tt }
