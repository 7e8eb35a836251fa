use Rattle.std.proofs.Common.{arith}
use Rattle.text.proofs.replies.put_reply.Goals as goal

pub returns-in-Ok : goal.returns-in-Ok
returns-in-Ok c = record { put = rw c.in-Ok.is c.put_reading.ensures.put; upper_bound = omega arith }

pub returns-in-Err : goal.returns-in-Err
returns-in-Err c = record { put = rw c.in-Err.is c.put_refusal.ensures.put; upper_bound = omega arith }
