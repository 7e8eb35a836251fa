use Rattle.std.proofs.Common.{◌≡◌, true, rules, sym, subst}
use Rattle.sparse_test.specs.Reads.{reads}
use Rattle.knobharbor.specs.Together.{held-back}
use Rattle.knobharbor.proofs.held.knobharbor_held_remove.Goals as goal

pub change-requires : goal.change-requires
change-requires c = subst (λ t. reads t ≡ true) (sym c.to_read.ensures) c.requires

pub returns : goal.returns
returns c = held-back c.change.new.room (search rules) c.to_read.ensures c.change.ensures.does
