use Rattle.std.proofs.Common.{rules}
use Rattle.rows.specs.places.Shares.{finite_in}
use Rattle.sparse_test.proofs.stretch.reals_finite.Goals as goal

pub returns : goal.returns
unfolding finite_in
returns c = c.every.ensures _ (λ i b h k q. search rules)
