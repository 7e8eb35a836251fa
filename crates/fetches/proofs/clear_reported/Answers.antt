use borrow.Author.Tests.{eq-eqb, ne_eqb}
use Rattle.fetches.specs.Seen.{cleared, not-cleared}
use Rattle.fetches.proofs.clear_reported.Goals as goal

pub returns-then-words-eq1 : goal.returns-then-words-eq1
returns-then-words-eq1 c = cleared c.args.words.now c.args.bytes.now (eq-eqb _ _ c.if-words-eq1.true) c.clear_changed.ensures

pub returns-else-words-eq1 : goal.returns-else-words-eq1
returns-else-words-eq1 c = not-cleared c.args.words.now c.args.bytes.now (ne_eqb _ _ c.if-words-eq1.false)
