use Rattle.std.proofs.Common.{◌≡◌, ℕ, ◌-◌, Bool, ◌&&◌, ltb, List, get_or, set}
use Rattle.rows.specs.places.Shares.{shares, take}
use Rattle.rows.proofs.places.take_share.Goals as goal

glue : (l : List ℕ) (p : ℕ) (ok : Bool) {x : ℕ} → x ≡ get_or l p 0 - 1 → shares (set l p x) (ok && ltb 0 (get_or l p 0)) ≡ take p (shares l ok)
unfolding take
glue l p ok e = rw e

pub returns : goal.returns
returns c = glue _ _ _ c.less_one.ensures
