use Rattle.std.proofs.Common.{refl}
use native.Mathlib.Omega.{arith}
use Rattle.steps.specs.Strength.{required}
use Rattle.laws.specs.Loops.{run-next, run-last}
use Rattle.laws.specs.Lists.{all_on, all-next, all-last}
use Rattle.sparse_test.specs.Tested.{claim_edits, edit_fits}
use Rattle.sparse_test.proofs.Claims.{ends}
use Rattle.sparse_test.proofs.owners.claim_edits.Goals as goal

pub loop-i-init : goal.loop-i-init
unfolding all_on claim_edits edit_fits
loop-i-init c = (refl, refl)

pub loop-i-preserved : goal.loop-i-preserved
unfolding required
loop-i-preserved c = (run-next _ _ _ _ (omega arith) (c.claim_tag-ok.ensures _) c.loop-i.invariant.0, all-next _ _ _ _ (omega arith) refl c.loop-i.invariant.1)

pub returns : goal.returns
returns c =
    let all = ends (run-last _ _ _ _ (omega arith) c.loop-i.invariant.0) (all-last _ _ _ _ (omega arith) c.loop-i.invariant.1) in
    record { table_after = all.0; value = all.1 }
