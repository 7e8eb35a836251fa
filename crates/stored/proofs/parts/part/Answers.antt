use native.Mathlib.Omega.{arith}
use Rattle.std.proofs.Common.{◌+◌}
use Rattle.std.proofs.lemmas.List.{get_or_default}
use Rattle.stored.specs.Parts.{part_none, part-next, part-last}
use Rattle.stored.proofs.parts.part.Goals as goal

pub loop-k-init : goal.loop-k-init
loop-k-init g c = λ z. part_none _ _ _ _ _ _

pub loop-k-preserved : goal.loop-k-preserved
loop-k-preserved g c = λ z. part-next z _ _ _ _ _ _ _ (omega arith) (get_or_default c.args.from.now (c.args.a + c.loop-k.k) _ z (omega arith)) (c.loop-k.invariant z)

pub returns : goal.returns
returns g c = λ z. part-last z _ _ _ _ _ _ _ _ (omega arith) (omega arith) (c.loop-k.invariant z)
