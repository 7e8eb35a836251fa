use native.Mathlib.Omega.{arith}
use Rattle.sparse_test.specs.Tested.{kind_at}
use Rattle.sparse_test.specs.Open.{none-coded, one-coded, all_coded}
use Rattle.sparse_test.proofs.owners.fill_codes.Goals as goal

pub loop-i-init : goal.loop-i-init
loop-i-init c = none-coded _ c.requires.table_value

pub loop-i-preserved : goal.loop-i-preserved
unfolding kind_at
loop-i-preserved c = one-coded _ _ (omega arith) c.code_of.ensures c.loop-i.invariant

pub returns : goal.returns
returns c = all_coded _ _ _ (omega arith) (omega arith) c.loop-i.invariant
