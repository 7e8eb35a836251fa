use mathlib.Core.Path.{◌∙◌}
use Rattle.waist.specs.Subject.{tag-is}
use Rattle.waist.specs.KindsRead.{symbol-read}
use Rattle.waist.proofs.Options.{some-if}
use Rattle.waist.proofs.subject.negative_tag.Goals as goal

pub returns : goal.returns
returns c = c.then_some.ensures ∙ some-if _ _ ∙ tag-is _ _ _ (rw (← symbol-read _ _ (rw c.kind_at.ensures at c.from.ensures)) c.negative_pivotable.ensures)
