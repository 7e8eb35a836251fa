use mathlib.Core.Path.{refl}
use native.Mathlib.Omega.{arith}
use Rattle.laws.specs.Loops.{first_next, first-here, first-last}
use Rattle.waist.specs.Choosing.{entering_of}
use Rattle.waist.specs.KindsRead.{dummy-read}
use Rattle.waist.proofs.choices.get_entering_symbol.Goals as goal

pub loop-p-init : goal.loop-p-init
unfolding entering_of
loop-p-init c = refl

pub returns-then-can_enter : goal.returns-then-can_enter
returns-then-can_enter c = record { value = first-here _ _ _ _ _ (omega arith) (rw (← dummy-read _ _ c.from.ensures, ← c.can_enter.ensures) c.if-can_enter.true) c.loop-p.invariant; within = (omega arith, omega arith) }

pub loop-p-preserved : goal.loop-p-preserved
loop-p-preserved c = first_next _ _ _ _ _ (omega arith) (rw (← dummy-read _ _ c.from.ensures, ← c.can_enter.ensures) c.if-can_enter.false) c.loop-p.invariant

pub returns : goal.returns
returns c = record { value = first-last _ _ _ _ _ (omega arith) c.loop-p.invariant; within = tt }
