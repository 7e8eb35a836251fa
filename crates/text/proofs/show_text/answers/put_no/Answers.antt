use Rattle.std.proofs.Common.{arith}
use Rattle.text.specs.Put.{put_then}
use Rattle.text.specs.show_text.Show.{no_text}
use Rattle.text.proofs.show_text.answers.put_no.Goals as goal

pub returns : goal.returns
unfolding no_text
returns c = record { put = put_then c.put_text-i.ensures.put c.put_number.ensures.put; upper_bound = omega arith }
