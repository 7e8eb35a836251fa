use mathlib.Core.Path.{refl}
use Rattle.rows.specs.Marks.{mark_of}
use Rattle.solver.proofs.begin.stored_mark.Goals as goal

pub returns : goal.returns
unfolding mark_of
returns c = refl
