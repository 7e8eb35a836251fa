use mathlib.Core.Path.{refl}
use native.Mathlib.Omega.{arith}
use borrow.Author.Tests.{le-leb, lt-leb}
use Rattle.layout.specs.Copy.{most16}
use Rattle.changes.proofs.terms.shown.Goals as goal

pub returns-then-n-le-TERM_ROOM : goal.returns-then-n-le-TERM_ROOM
unfolding most16
returns-then-n-le-TERM_ROOM c = record { value = rw (le-leb _ _ c.if-n-le-TERM_ROOM.true) refl; upper_bound = c.if-n-le-TERM_ROOM.true }

pub returns-else-n-le-TERM_ROOM : goal.returns-else-n-le-TERM_ROOM
unfolding most16
returns-else-n-le-TERM_ROOM c = record { value = rw (lt-leb _ _ c.if-n-le-TERM_ROOM.false) refl; upper_bound = omega arith }
