use Rattle.std.proofs.Common.{rules}
use Rattle.knobharbor.specs.Held.{held_by}
use Rattle.knobharbor.proofs.held.change.Goals as goal

pub change_held-a-requires : goal.change_held-a-requires
change_held-a-requires c = c.requires

pub returns : goal.returns
returns c = record { does = held_by _ _ _ c.change_held-a.result c.put.ensures c.change_held-a.ensures.done c.change_held-a.ensures.then; same = search rules }
