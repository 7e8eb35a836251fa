use mathlib.Core.Path.{refl, ap}
use Rattle.steps.specs.Number.{constant_bound, whole_if}
use Rattle.rows.specs.Marks.{mark_of, joined-mark}
use Rattle.optimising.proofs.suggestion.suggest.mark_suggestion.Goals as goal

pub returns : goal.returns
unfolding constant_bound mark_of
returns c = joined-mark _ _ c.joined.ensures refl (ap whole_if c.whole_within-whole.ensures)
