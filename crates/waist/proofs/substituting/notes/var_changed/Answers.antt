use mathlib.Core.Path.{refl}
use Rattle.waist.specs.substituting.Notes.{cleared_if, var_changed_at}
use Rattle.waist.proofs.substituting.notes.var_changed.Goals as goal

pub returns : goal.returns
unfolding var_changed_at cleared_if
returns c = rw (c.flag_place.ensures, c.clear_changed_if.ensures) refl
