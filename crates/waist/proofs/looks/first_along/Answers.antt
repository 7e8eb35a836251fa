use mathlib.Core.Path.{refl}
use native.Mathlib.Omega.{arith}
use Rattle.laws.specs.Loops.{first_next, first-here, first-last}
use Rattle.waist.specs.Looks.{look_of}
use Rattle.waist.specs.KindsRead.{symbol-read}
use Rattle.waist.proofs.looks.first_along.Goals as goal

pub loop-p-init : goal.loop-p-init
unfolding look_of
loop-p-init c = refl

pub returns-then-passes : goal.returns-then-passes
returns-then-passes c = record { value = first-here _ _ _ _ _ (omega arith) (rw (← symbol-read _ _ c.from.ensures, ← c.passes.ensures) c.if-passes.true) c.loop-p.invariant; within = (omega arith, omega arith) }

pub loop-p-preserved : goal.loop-p-preserved
loop-p-preserved c = first_next _ _ _ _ _ (omega arith) (rw (← symbol-read _ _ c.from.ensures, ← c.passes.ensures) c.if-passes.false) c.loop-p.invariant

pub returns : goal.returns
returns c = record { value = first-last _ _ _ _ _ (omega arith) c.loop-p.invariant; within = tt }
