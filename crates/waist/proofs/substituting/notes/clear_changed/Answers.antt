use native.Mathlib.Omega.{arith}
use Rattle.waist.proofs.Copied.{filled}
use Rattle.waist.proofs.substituting.notes.clear_changed.Goals as goal

pub returns : goal.returns
returns c = filled 0 _ _ _ (omega arith) (c.fill.ensures.after (λ y h. h))
