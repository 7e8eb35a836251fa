use mathlib.Core.Path.{ap}
use lib.Dec.{ltb}
use Prim.Native.Nat.{ℕ}
use Rattle.fetches.specs.Listing.{returned}
use Rattle.fetches.proofs.listing.has_returned.Goals as goal

pub returns : goal.returns
unfolding returned
returns c = ap (λ (p : ℕ). ltb p c.args.g) c.look_up.ensures.value
