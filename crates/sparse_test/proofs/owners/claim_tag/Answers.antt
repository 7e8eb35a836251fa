use Rattle.std.proofs.Common.{ℕ, ◌≡◌, ap, sym, ◌∙◌, Bool, ◌&&◌, List}
use Rattle.std.proofs.Math.Bool.{and_assoc}
use Rattle.rows.specs.places.Shares.{Shares, shares}
use Rattle.sparse_test.specs.Tested.{claim_other}
use Rattle.sparse_test.proofs.owners.claim_tag.Goals as goal

glue : (l : List ℕ) (ok a b : Bool) (p : ℕ) {y z : Shares} → shares l ((ok && a) && b) ≡ claim_other p y → y ≡ z → shares l (ok && (a && b)) ≡ claim_other p z
glue l ok a b p e q = ap (shares l) (sym (and_assoc ok a b)) ∙ e ∙ ap (claim_other p) q

pub returns : goal.returns
returns c = λ ok. glue _ ok _ _ _ (c.claim_other.ensures _) (c.claim-marker.ensures ok)
