use Rattle.std.proofs.Common.{rules, ap, Bool, ◌&&◌, eqb, get_or}
use Rattle.sparse_test.specs.Tested.{uses_are}
use Rattle.sparse_test.proofs.uses.uses_are.Goals as goal

pub returns : goal.returns
unfolding uses_are
returns c = ap (λ (b : Bool). b && eqb (get_or c.args.counts.now c.args.v 0) 0) (c.each.ensures _ (λ i b h k q. search rules))
