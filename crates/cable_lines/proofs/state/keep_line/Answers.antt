use Rattle.std.proofs.Common.{arith}
use Rattle.cable_lines.specs.State.{kept_byte}
use Rattle.cable_lines.proofs.state.keep_line.Goals as goal

pub loop-i-preserved : goal.loop-i-preserved
loop-i-preserved c = rw c.keep.ensures (kept_byte c.loop-i.invariant (omega arith) c.if-b-eq10.false)
