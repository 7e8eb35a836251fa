use Rattle.std.proofs.Common.{ℕ, ◌≡◌, refl, ap, ◌∙◌, Bool, ◌&&◌, ◌+◌, leb, get_or}
use native.Mathlib.Omega.{arith}
use Rattle.laws.specs.Loops.{run-next, run-last}
use Rattle.laws.specs.Lists.{all_on, all-next, all-last}
use Rattle.rows.specs.places.Shares.{Shares}
use Rattle.sparse.specs.Places.{relations_at}
use Rattle.sparse_test.specs.Tested.{claim, claim_other, claim_constraints, constraint_fits}
use Rattle.sparse_test.proofs.Claims.{ends}
use Rattle.sparse_test.proofs.owners.claim_constraints.Goals as goal

marked : (o m : ℕ) (s : Shares) {x y : ℕ} {z : Shares} → x ≡ y → z ≡ claim_other o (claim m x s) → z ≡ claim_other o (claim m y s)
marked o m s e q = q ∙ ap (λ (x : ℕ). claim_other o (claim m x s)) e

soft : (fits few : Bool) {a b : Bool} → a ≡ b → (fits && (a && few)) ≡ (fits && (b && few))
soft fits few e = ap (λ (a : Bool). fits && (a && few)) e

pub loop-i-init : goal.loop-i-init
unfolding all_on claim_constraints constraint_fits
loop-i-init c = (refl, refl)

pub loop-i-preserved : goal.loop-i-preserved
loop-i-preserved c =
    let few = leb (get_or c.args.bytes.now (relations_at + c.loop-i.i) 0) 2 in
    (run-next _ _ _ _ (omega arith) (marked _ _ _ c.marker_code-x.ensures (c.claim_tag-ok.ensures _)) c.loop-i.invariant.0, all-next _ _ _ _ (omega arith) (soft c.loop-i.fits few c.strength_fits-soft.ensures) c.loop-i.invariant.1)

pub returns : goal.returns
returns c =
    let all = ends (run-last _ _ _ _ (omega arith) c.loop-i.invariant.0) (all-last _ _ _ _ (omega arith) c.loop-i.invariant.1) in
    record { table_after = all.0; value = all.1 }
