use native.Mathlib.Omega.{arith}
use Rattle.stored.specs.Carried.{edit-bytes}
use Rattle.stored.proofs.carry.edit_bytes.Goals as goal

pub returns : goal.returns
returns c = edit-bytes _ _ _ (omega arith) _ _ c.split_named.ensures.region c.split_named.ensures.rest c.split_named-2.ensures.region c.split_named-2.ensures.rest c.split_named-3.ensures.region c.split_named-3.ensures.rest
