use native.Mathlib.Omega.{arith}
use Rattle.waist.specs.Looks.{loadable}
use Rattle.waist.specs.Choices.{goal-objective, goal-artificial}
use Rattle.waist.proofs.choices.get_goal_entering_symbol.Goals as goal

pub load_line-requires : goal.load_line-requires
load_line-requires c = record { loadable = loadable _ _ c.requires; i_le_most_rows = omega (arith, c.requires.few) }

pub returns-then-art : goal.returns-then-art
returns-then-art c = goal-artificial _ c.first_along.ensures.within _ _ c.if-art.true c.load_line.ensures c.first_along.ensures.value

pub returns : goal.returns
returns c = goal-objective _ c.get_entering_symbol.ensures.within _ c.if-art.false c.get_entering_symbol.ensures.value
