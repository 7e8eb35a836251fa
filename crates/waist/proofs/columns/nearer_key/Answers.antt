use borrow.Author.Tests.{lt-ltb, le-ltb}
use Rattle.layout.specs.cells.Cells.{nearer_of}
use Rattle.waist.proofs.columns.nearer_key.Goals as goal

pub returns-then-p-key : goal.returns-then-p-key
unfolding nearer_of
returns-then-p-key c = rw (lt-ltb _ _ c.if-p-key.true)

pub returns : goal.returns
unfolding nearer_of
returns c = rw (le-ltb _ _ c.if-p-key.false)
