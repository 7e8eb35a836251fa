use Rattle.std.proofs.Common.{rules}
use lib.Ieee.{of_bits}
use Rattle.steps.specs.Number.{zero64}
use Rattle.sparse_test.specs.Tested.{values_fit}
use Rattle.sparse_test.proofs.tableau.values_fit.Goals as goal

pub returns : goal.returns
unfolding values_fit zero64 of_bits
returns c = c.every.ensures _ (λ i b h k q. search rules)
