use mathlib.Core.Path.{refl}
use Rattle.fetches.proofs.listing.Listed.push.Goals as goal

pub returns-clause-after : goal.returns-clause-after
returns-clause-after c = rw c.from.ensures refl
