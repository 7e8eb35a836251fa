use mathlib.Core.Path.{refl}
use native.Mathlib.Omega.{arith}
use borrow.Author.Tests.{eq-eqb, ne_eqb}
use Rattle.laws.specs.Loops.{first_next, first-here, first-last}
use Rattle.stored.specs.Put.{number_of}
use Rattle.stored.proofs.new.number_of.Goals as goal

pub loop-v-init : goal.loop-v-init
unfolding number_of
loop-v-init c = refl

pub returns-then-p-bytes : goal.returns-then-p-bytes
returns-then-p-bytes c = first-here _ _ _ _ _ (omega arith) (eq-eqb _ _ c.if-p-bytes.true) c.loop-v.invariant

pub loop-v-preserved : goal.loop-v-preserved
loop-v-preserved c = first_next _ _ _ _ _ (omega arith) (ne_eqb _ _ c.if-p-bytes.false) c.loop-v.invariant

pub returns : goal.returns
returns c = first-last _ _ _ _ _ (omega arith) c.loop-v.invariant
