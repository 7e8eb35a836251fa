use native.Mathlib.Omega.{arith}
use Rattle.fetches.proofs.Stretches.{filled_stretch}
use Rattle.fetches.proofs.clear_changed.Goals as goal

pub returns : goal.returns
returns c = filled_stretch 0 _ _ _ _ (c.fill.ensures.after (λ y e. e)) (omega arith) (omega arith)
