use Rattle.writing.specs.Buffer.{adds-byte, adds-past}
use Rattle.writing.proofs.buffer.put.Goals as goal

pub returns-then-at-out : goal.returns-then-at-out
returns-then-at-out c = adds-byte _ _ _ c.if-at-out.true

pub returns : goal.returns
returns c = adds-past _ _ _ c.if-at-out.false
