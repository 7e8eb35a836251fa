use Rattle.std.proofs.Common.{arith}
use Rattle.text.specs.Put.{put_then}
use Rattle.text.proofs.replies.put_term.Goals as goal

pub returns : goal.returns
returns c = record { put = put_then c.put_byte-i.ensures.put (put_then c.put_number-j.ensures.put (put_then c.put_byte-m.ensures.put c.put_signed.ensures.put)); upper_bound = omega arith }
