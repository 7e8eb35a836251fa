use Prim.Native.Nat.{ℕ}
use mathlib.Core.Path.{ap}
use lib.Dec.{ltb}
use Rattle.refusals.specs.Refusals.{live_in}
use Rattle.refusals.proofs.is_live.Goals as goal

pub returns : goal.returns
unfolding live_in
returns c = ap (λ (z : ℕ). ltb z c.args.c) c.look_up.ensures.value
