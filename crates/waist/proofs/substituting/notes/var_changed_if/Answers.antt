use mathlib.Core.Path.{refl}
use Rattle.waist.specs.substituting.Notes.{var_changed_if}
use Rattle.waist.proofs.substituting.notes.var_changed_if.Goals as goal

pub returns-then-on : goal.returns-then-on
unfolding var_changed_if
returns-then-on c = rw c.if-on.true c.var_changed.ensures

pub returns-else-on : goal.returns-else-on
unfolding var_changed_if
returns-else-on c = rw c.if-on.false refl
