use Rattle.std.proofs.Common.{arith}
use Rattle.text.specs.Put.{put-wrote}
use Rattle.text.specs.Answers.{decimal-short}
use Rattle.text.proofs.buffer.put_number.Goals as goal

pub returns : goal.returns
returns c = record { put = put-wrote _ _ _ _ c.put_number.ensures; upper_bound = omega (arith, c.put_number.ensures.0, decimal-short 20 c.args.n) }
