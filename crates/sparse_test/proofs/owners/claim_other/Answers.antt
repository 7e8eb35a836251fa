use Rattle.std.proofs.Common.{ℕ, ◌≡◌, refl, ap, ◌∙◌, Bool, true, false, ◌&&◌, List, eqb}
use Rattle.std.proofs.Math.Bool.{and-true}
use borrow.Author.Tests.{eq-eqb, ne_eqb}
use Rattle.rows.specs.places.Shares.{Shares, shares}
use Rattle.sparse_test.specs.Tested.{claim, claim_other}
use Rattle.sparse_test.proofs.owners.claim_other.Goals as goal

none : (p : ℕ) (l : List ℕ) (ok : Bool) → eqb p 0 ≡ true → shares l (ok && true) ≡ claim_other p (shares l ok)
unfolding claim_other
none p l ok e = ap (shares l) (and-true ok) ∙ rw e refl

some : (p : ℕ) (s : Shares) {z : Shares} → eqb p 0 ≡ false → z ≡ claim p 3 s → z ≡ claim_other p s
unfolding claim_other
some p s e q = q ∙ rw e refl

pub returns-then-p-eq0 : goal.returns-then-p-eq0
returns-then-p-eq0 c = λ ok. none _ _ ok (eq-eqb _ _ c.if-p-eq0.true)

pub returns : goal.returns
returns c = λ ok. some _ _ (ne_eqb _ _ c.if-p-eq0.false) (c.claim.ensures ok)
