use Rattle.std.proofs.Common.{rules}
use Rattle.lending.specs.Reset.{reset_of}
use Rattle.knobharbor.specs.Places.{call-placed}
use Rattle.knobharbor.specs.Together.{put-back}
use Rattle.knobharbor.proofs.asked.knobharbor_reset.Goals as goal

pub returns : goal.returns
returns c = put-back c.reset-a.new.tables (search rules) (λ _. reset_of c.args.cutoff) c.to_write.ensures.value c.to_write.ensures.value (call-placed c.put.ensures c.reset-a.ensures.does)
