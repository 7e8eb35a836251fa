use Rattle.std.proofs.Common.{refl, arith, le-leb}
use borrow.Author.Tests.{lt-leb}
use Rattle.layout.specs.Copy.{most16}
use Rattle.entry.proofs.typed.pack.shown.Goals as goal

pub returns-then-count-le-TERM_ROOM : goal.returns-then-count-le-TERM_ROOM
unfolding most16
returns-then-count-le-TERM_ROOM c = record { value = rw (le-leb _ _ c.if-count-le-TERM_ROOM.true) refl; upper_bound = c.if-count-le-TERM_ROOM.true }

pub returns-else-count-le-TERM_ROOM : goal.returns-else-count-le-TERM_ROOM
unfolding most16
returns-else-count-le-TERM_ROOM c = record { value = rw (lt-leb _ _ c.if-count-le-TERM_ROOM.false) refl; upper_bound = omega arith }
