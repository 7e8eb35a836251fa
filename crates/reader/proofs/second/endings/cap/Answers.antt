use Rattle.std.proofs.Common.{sym, arith}
use Rattle.reader.specs.second.Numbers.{capped-in, capped-over}
use Rattle.reader.proofs.second.endings.cap.Goals as goal

pub returns-then-most-n : goal.returns-then-most-n
returns-then-most-n c = sym (capped-over c.args.most c.args.n c.if-most-n.true)

pub returns-else-most-n : goal.returns-else-most-n
returns-else-most-n c = sym (capped-in c.args.most c.args.n (omega arith))
