use Prim.Native.Nat.{ℕ}
use mathlib.Core.Path.{ap}
use lib.Dec.{ltb}
use Rattle.refusals.specs.Refusals.{constraints_in, live_in}
use Rattle.refusals.proofs.group_lives.Goals as goal

pub returns : goal.returns
unfolding live_in
returns c = ap (λ (z : ℕ). ltb z (constraints_in c.args.words.now)) c.group_place.ensures
