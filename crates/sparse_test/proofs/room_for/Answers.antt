use borrow.Author.Tests.{lt-leb, le-leb}
use Rattle.sparse_test.specs.Whole.{room_for}
use Rattle.sparse_test.proofs.room_for.Goals as goal

pub returns-then-c : goal.returns-then-c
unfolding room_for
returns-then-c c = simp (lt-leb _ _ c.if-c.true)

pub returns-then-e : goal.returns-then-e
unfolding room_for
returns-then-e c = simp (le-leb _ _ c.if-c.false, lt-leb _ _ c.if-e.true)

pub returns : goal.returns
unfolding room_for
returns c = simp (le-leb _ _ c.if-c.false, le-leb _ _ c.if-e.false)
