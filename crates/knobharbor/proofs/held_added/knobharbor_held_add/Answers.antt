use Rattle.std.proofs.Common.{◌≡◌, true, rules, sym, subst}
use Rattle.sparse_test.specs.Reads.{reads}
use Rattle.knobharbor.specs.Held.{held-list}
use Rattle.knobharbor.specs.Together.{held-back}
use Rattle.knobharbor.proofs.held_added.knobharbor_held_add.Goals as goal

pub add_packed-requires : goal.add_packed-requires
add_packed-requires c = subst (λ t. reads t ≡ true) (sym c.to_read.ensures) c.requires

pub returns : goal.returns
returns c = held-back c.add_packed.new.room (search rules) c.to_read.ensures (held-list c.args.group c.args.number c.args.constant c.args.kind c.args.strength c.args.budget _ _ _ c.args.terms.now _ c.collect-p.ensures c.add_packed.ensures.does)
