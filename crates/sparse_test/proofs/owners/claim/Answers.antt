use Rattle.std.proofs.Common.{ℕ, ◌≡◌, refl, Bool, ◌&&◌, List, eqb, get_or, set}
use Rattle.rows.specs.places.Shares.{shares}
use Rattle.sparse_test.specs.Tested.{claim}
use Rattle.sparse_test.proofs.owners.claim.Goals as goal

glue : (l : List ℕ) (p x : ℕ) (ok : Bool) {i : ℕ} → i ≡ p → shares (set l i 0) (ok && eqb (get_or l i 0) x) ≡ claim p x (shares l ok)
unfolding claim
glue l p x ok e = rw e refl

pub returns : goal.returns
returns c = λ ok. glue _ _ _ ok c.from-i.ensures
