use Rattle.std.proofs.Common.{rules}
use Rattle.knobharbor.specs.Places.{call-placed}
use Rattle.knobharbor.proofs.changed.change.Goals as goal

pub returns : goal.returns
returns c = record { values_after = call-placed c.put.ensures c.change-a.ensures.values_value; wvalues_value = c.change-a.ensures.wvalues_value; same_tables = search rules; same_room = search rules }
