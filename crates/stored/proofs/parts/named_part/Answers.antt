use mathlib.Core.Path.{refl}
use native.Mathlib.Omega.{arith}
use Rattle.stored.specs.Parts.{part_none, part-next, part-last}
use Rattle.stored.proofs.parts.named_part.Goals as goal

pub loop-k-init : goal.loop-k-init
loop-k-init c = part_none _ _ _ _ _ _

pub loop-k-preserved : goal.loop-k-preserved
loop-k-preserved c = part-next _ _ _ _ _ _ _ _ (omega arith) (rw c.from.ensures refl) c.loop-k.invariant

pub returns : goal.returns
returns c = part-last _ _ _ _ _ _ _ _ _ (omega arith) (omega arith) c.loop-k.invariant
