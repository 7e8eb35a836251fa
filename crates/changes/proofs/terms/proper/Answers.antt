use mathlib.Core.Path.{◌∙◌}
use lib.Ieee.{div, of_bits}
use borrow.Author.Tests.{not-true, not-false}
use Rattle.steps.specs.Number.{zero64}
use Rattle.changes.specs.terms.Listed.{proper-none, proper-zero, proper-nan}
use Rattle.changes.proofs.terms.proper.Goals as goal

pub returns-then-not-p : goal.returns-then-not-p
unfolding div of_bits
returns-then-not-p c = c.push.ensures ∙ proper-nan _ c.shown_again-q.ensures (not-true _ c.if-not-p.true)

pub returns-then-p-gt-TERM_ROOM : goal.returns-then-p-gt-TERM_ROOM
unfolding zero64
returns-then-p-gt-TERM_ROOM c = c.push-then-p-gt-TERM_ROOM.ensures ∙ proper-zero _ c.shown_again-q.ensures (not-false _ c.if-not-p.false) c.if-p-gt-TERM_ROOM.true

pub returns : goal.returns
returns c = proper-none _ c.shown_again-q.ensures (not-false _ c.if-not-p.false) c.if-p-gt-TERM_ROOM.false
