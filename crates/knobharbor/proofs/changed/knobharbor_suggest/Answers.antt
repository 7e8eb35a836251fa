use Rattle.std.proofs.Common.{rules}
use Rattle.steps.specs.Calls.{suggest}
use Rattle.lending.specs.Lending.{call_of}
use Rattle.knobharbor.specs.Together.{put-back, cleared-back}
use Rattle.knobharbor.proofs.changed.knobharbor_suggest.Goals as goal

pub returns-clause-values_after : goal.returns-clause-values_after
returns-clause-values_after c = put-back c.change.new.tables (search rules) (call_of (suggest c.args.variable c.args.suggestion c.args.budget)) c.to_write-2.ensures.value c.to_write.ensures.value c.change.ensures.values_after

pub returns-clause-wvalues_value : goal.returns-clause-wvalues_value
returns-clause-wvalues_value c = cleared-back c.change.new.room (search rules) c.to_write-2.ensures.value c.change.ensures.wvalues_value
