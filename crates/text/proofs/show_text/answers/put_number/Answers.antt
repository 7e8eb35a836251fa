use Rattle.std.proofs.Common.{arith}
use Rattle.text.specs.Put.{put_then}
use Rattle.text.proofs.show_text.answers.put_number.Goals as goal

pub returns : goal.returns
returns c = record { put = put_then c.put_byte-i.ensures.put c.put_number.ensures.put; upper_bound = omega arith }
