use native.Mathlib.Omega.{arith}
use Rattle.cable_lines.specs.State.{kept_more, kept-over}
use Rattle.cable_lines.proofs.state.keep.Goals as goal

pub returns-then-n-lt200 : goal.returns-then-n-lt200
returns-then-n-lt200 c = kept_more c.args.s.now (omega arith) c.args.b c.if-n-lt200.true

pub returns : goal.returns
returns c = kept-over c.args.s.now (omega arith) c.args.b c.if-n-lt200.false
