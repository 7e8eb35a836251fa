use Rattle.std.proofs.Common.{rules}
use Rattle.sparse_test.proofs.words_up.Goals as goal

pub returns : goal.returns
returns c = c.up.ensures _ _ (λ i x h q. search rules)
