use borrow.Author.Tests.{lt-ltb, le-ltb}
use Rattle.layout.specs.cells.Cells.{row_after}
use Rattle.layout.proofs.cells.shift.row_after.Goals as goal

pub returns-then-key-lt-KEYS_END : goal.returns-then-key-lt-KEYS_END
unfolding row_after
returns-then-key-lt-KEYS_END c = rw (lt-ltb _ _ c.if-key-lt-KEYS_END.true)

pub returns : goal.returns
unfolding row_after
returns c = rw (le-ltb _ _ c.if-key-lt-KEYS_END.false)
