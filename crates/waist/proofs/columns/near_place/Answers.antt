use borrow.Author.Tests.{lt-ltb, le-ltb}
use Rattle.waist.specs.Lowering.{near_place}
use Rattle.waist.proofs.columns.near_place.Goals as goal

pub returns-then-p-x : goal.returns-then-p-x
unfolding near_place
returns-then-p-x c = rw (lt-ltb _ _ c.if-p-x.true)

pub returns : goal.returns
unfolding near_place
returns c = rw (le-ltb _ _ c.if-p-x.false)
