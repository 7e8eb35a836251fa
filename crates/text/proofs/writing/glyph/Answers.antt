use Rattle.std.proofs.Common.{le-ltb, lt-ltb}
use Rattle.text.proofs.writing.glyph.Goals as goal

pub returns-then-d-lt10 : goal.returns-then-d-lt10
returns-then-d-lt10 c = simp (lt-ltb c.args.d 10 c.if-d-lt10.true)

pub returns-else-d-lt10 : goal.returns-else-d-lt10
returns-else-d-lt10 c = simp (le-ltb c.args.d 10 c.if-d-lt10.false)
