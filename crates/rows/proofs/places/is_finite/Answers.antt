use lib.Ieee.{of_bits}
use Rattle.steps.specs.Number.{zero64}
use Rattle.rows.specs.places.Products.{by_zero}
use Rattle.rows.proofs.places.is_finite.Goals as goal

pub returns : goal.returns
unfolding of_bits zero64
returns c = by_zero _
