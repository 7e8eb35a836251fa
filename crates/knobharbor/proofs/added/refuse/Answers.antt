use Rattle.std.proofs.Common.{rules}
use Rattle.knobharbor.proofs.added.refuse.Goals as goal

pub returns : goal.returns
returns c = record { result_value = c.refuse18.ensures; wvalues_value = c.clear_room.ensures.does; same = search rules }
