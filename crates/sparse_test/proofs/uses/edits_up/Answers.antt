use Rattle.std.proofs.Common.{rules}
use Rattle.sparse_test.specs.Tested.{edits_up}
use Rattle.sparse_test.proofs.uses.edits_up.Goals as goal

pub returns : goal.returns
unfolding edits_up
returns c = c.each.ensures _ (λ i b h k q. search rules)
