use Rattle.std.proofs.Common.{arith}
use Rattle.text.specs.Put.{put_then, put-wrote}
use Rattle.text.specs.show_text.Show.{float-length}
use Rattle.text.proofs.show_text.answers.put_float.Goals as goal

pub returns : goal.returns
returns c = record { put = put_then c.put_byte-i.ensures.put (put_then c.put_text-j.ensures.put (put-wrote _ _ _ _ c.put_float.ensures)); upper_bound = omega (arith, c.put_float.ensures.0, float-length c.args.x) }
