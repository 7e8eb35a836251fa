use mathlib.Core.Path.{refl}
use native.Mathlib.Omega.{arith}
use Rattle.laws.specs.Loops.{run-next, run-last}
use Rattle.waist.specs.substituting.Notes.{flagged_in, flag-on, flag_off}
use Rattle.waist.proofs.substituting.notes.flag_place.Goals as goal

pub loop-v-init : goal.loop-v-init
unfolding flagged_in
loop-v-init c = refl

pub loop-v-preserved-then-bytes-v : goal.loop-v-preserved-then-bytes-v
loop-v-preserved-then-bytes-v c = run-next _ _ _ _ (omega arith) (flag_off _ _ _ c.if-bytes-v.true) c.loop-v.invariant

pub loop-v-preserved : goal.loop-v-preserved
loop-v-preserved c = run-next _ _ _ _ (omega arith) (flag-on _ _ _ c.if-bytes-v.false) c.loop-v.invariant

pub returns : goal.returns
returns c = run-last _ _ _ _ (omega arith) c.loop-v.invariant
