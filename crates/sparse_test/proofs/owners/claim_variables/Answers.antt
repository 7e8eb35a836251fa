use Rattle.std.proofs.Common.{refl}
use native.Mathlib.Omega.{arith}
use Rattle.laws.specs.Loops.{run-next, run-last}
use Rattle.laws.specs.Lists.{all_on, all-next, all-last}
use Rattle.sparse_test.specs.Stretch.{most_in}
use Rattle.sparse_test.specs.Tested.{claim_variables}
use Rattle.sparse_test.proofs.Claims.{ends}
use Rattle.sparse_test.proofs.owners.claim_variables.Goals as goal

pub loop-i-init : goal.loop-i-init
unfolding all_on claim_variables most_in
loop-i-init c = (refl, refl)

pub loop-i-preserved : goal.loop-i-preserved
loop-i-preserved c = (run-next _ _ _ _ (omega arith) (c.claim-ok.ensures _) c.loop-i.invariant.0, all-next _ _ _ _ (omega arith) refl c.loop-i.invariant.1)

pub returns : goal.returns
returns c =
    let all = ends (run-last _ _ _ _ (omega arith) c.loop-i.invariant.0) (all-last _ _ _ _ (omega arith) c.loop-i.invariant.1) in
    record { table_after = all.0; value = all.1 }
