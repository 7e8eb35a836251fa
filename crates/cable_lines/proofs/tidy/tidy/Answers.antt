use Rattle.std.proofs.Common.{arith}
use Rattle.cable_lines.specs.Bytes.{cleared-within, cleared-over}
use Rattle.cable_lines.proofs.tidy.tidy.Goals as goal

pub returns-then-n-le200 : goal.returns-then-n-le200
returns-then-n-le200 c = cleared-within c.args.s.now (omega arith) (omega arith) (c.fill.ensures.after (λ y h. h))

pub returns : goal.returns
returns c = cleared-over c.args.s.now (omega arith) (omega arith) (c.fill-2.ensures.after (λ y h. h))
