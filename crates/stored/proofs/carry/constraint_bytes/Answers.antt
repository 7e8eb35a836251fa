use native.Mathlib.Omega.{arith}
use Rattle.stored.specs.Carried.{constraint-bytes}
use Rattle.stored.proofs.carry.constraint_bytes.Goals as goal

pub returns : goal.returns
returns c = constraint-bytes _ _ (omega arith) _ _ c.split_named.ensures.region c.split_named.ensures.rest c.split_named-2.ensures.region c.split_named-2.ensures.rest (c.split.ensures.region 0) (c.split.ensures.rest 0)
