use Rattle.std.proofs.Common.{arith}
use Rattle.text.specs.Put.{put_then}
use Rattle.text.proofs.replies.put_head.Goals as goal

pub returns : goal.returns
returns c = record {
  put = put_then c.put_text-i.ensures.put
      (put_then c.put_relation-j.ensures.put
      (put_then c.put_number-k.ensures.put
      (put_then c.put_byte-a.ensures.put
      (put_then c.put_number-b.ensures.put
      (put_then c.put_byte-l.ensures.put
      (put_then c.put_signed-n.ensures.put (put_then c.put_byte-o.ensures.put c.put_number.ensures.put)))))));
  upper_bound = omega arith;
}
