use Rattle.std.proofs.Common.{rules}
use Rattle.knobharbor.specs.Held.{held-packed}
use Rattle.knobharbor.proofs.held_added.add_packed.Goals as goal

pub change-requires : goal.change-requires
change-requires c = c.requires

pub returns : goal.returns
returns c = record { does = held-packed c.args.group c.args.number c.args.constant c.args.kind c.args.strength c.args.budget _ _ _ c.args.p c.relation-r.result c.relation-r.ensures c.change.ensures.does; same = search rules }
