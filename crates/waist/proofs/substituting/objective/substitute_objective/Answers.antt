use mathlib.Core.Path.{refl}
use Rattle.steps.specs.Number.{zero64}
use Rattle.steps.specs.Symbol.{absent}
use Rattle.rows.specs.Marks.{mark-clean}
use Rattle.waist.specs.substituting.Objective.{aim_with, objective_in}
use Rattle.waist.proofs.substituting.objective.substitute_objective.Goals as goal

pub returns-then-k : goal.returns-then-k
unfolding objective_in absent zero64
returns-then-k c = rw (c.if-k.true, c.nothing.ensures, mark-clean) refl

pub returns : goal.returns
unfolding objective_in aim_with absent zero64
returns c = rw c.if-k.false c.insert_cells.ensures
