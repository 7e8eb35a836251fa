use mathlib.Core.Path.{refl}
use Rattle.steps.specs.Number.{constant_bound}
use Rattle.rows.specs.Marks.{joined-mark}
use Rattle.optimising.specs.suggestion.Shifting.{shift-some, shift_none}
use Rattle.optimising.proofs.suggestion.shifting.shift_row.Goals as goal

pub returns-in_default : goal.returns-in_default
returns-in_default c = let all = shift_none _ _ _ _ c.in_default.is in record { result_value = all.0; reals_after = all.1 }

pub returns : goal.returns
unfolding constant_bound
returns c = let all = shift-some _ _ _ _ _ c.in-Some.is refl c.mark_write.ensures (joined-mark _ _ c.joined.ensures refl refl) in record { result_value = all.0; reals_after = all.1 }
