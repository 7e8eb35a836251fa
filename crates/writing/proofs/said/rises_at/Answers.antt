use Rattle.std.proofs.Common.{le-ltb, lt-ltb}
use Rattle.writing.proofs.said.rises_at.Goals as goal

pub returns-then-i-n : goal.returns-then-i-n
returns-then-i-n c = rw (lt-ltb _ _ c.if-i-n.true)

pub returns : goal.returns
returns c = rw (le-ltb _ _ c.if-i-n.false)
