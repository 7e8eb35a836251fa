use borrow.Author.Tests.{lt-ltb, le-ltb}
use Rattle.changes.specs.terms.Terms.{pushed}
use Rattle.changes.proofs.terms.push.Goals as goal

pub returns-then-n-lt-TERM_ROOM : goal.returns-then-n-lt-TERM_ROOM
unfolding pushed
returns-then-n-lt-TERM_ROOM c = simp (lt-ltb _ _ c.if-n-lt-TERM_ROOM.true, c.is_finite.ensures)

pub returns-else-n-lt-TERM_ROOM : goal.returns-else-n-lt-TERM_ROOM
unfolding pushed
returns-else-n-lt-TERM_ROOM c = simp (le-ltb _ _ c.if-n-lt-TERM_ROOM.false, c.is_finite.ensures)
