use native.Mathlib.Omega.{arith}
use Rattle.stored.specs.Carried.{bytes-carried}
use Rattle.stored.proofs.carry.carry_bytes.Goals as goal

pub returns : goal.returns
returns c = bytes-carried _ _ _ _ _ (omega arith, omega arith, omega arith) _ _ c.constraint_bytes.ensures c.edit_bytes.ensures c.split_named.ensures.region c.split_named.ensures.rest (c.split.ensures.region 0) (c.split.ensures.rest 0)
