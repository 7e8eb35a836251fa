use Rattle.std.proofs.Common.{refl, arith}
use lib.Ieee.{nan}
use Rattle.laws.specs.Loops.{map_last, map_next}
use Rattle.rows.specs.Table.{reverse_sign_in, reversed_value}
use Rattle.rows.proofs.row.reverse_sign.Goals as goal

pub loop-i-init : goal.loop-i-init
loop-i-init c = refl

pub loop-i-preserved : goal.loop-i-preserved
unfolding reversed_value
loop-i-preserved c = map_next _ _ _ _ nan (omega arith) c.stored.ensures c.loop-i.invariant

pub returns : goal.returns
unfolding reverse_sign_in
returns c = map_last _ _ _ _ (omega arith) c.loop-i.invariant
