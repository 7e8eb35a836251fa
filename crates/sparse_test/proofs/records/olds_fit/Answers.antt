use Rattle.std.proofs.Common.{rules}
use Rattle.sparse_test.specs.Tested.{olds_fit}
use Rattle.sparse_test.proofs.records.olds_fit.Goals as goal

pub returns : goal.returns
unfolding olds_fit
returns c = c.every.ensures _ (λ i b h k q. search rules)
