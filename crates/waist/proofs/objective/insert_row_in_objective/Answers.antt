use native.Mathlib.Omega.{arith}
use mathlib.Core.Path.{refl}
use Rattle.waist.specs.substituting.Held.{held-room}
use Rattle.waist.specs.Working.{lines-few}
use Rattle.waist.specs.Pivoting.{narrow-held}
use Rattle.waist.specs.Goals.{row_goal, row-in-objective}
use Rattle.waist.proofs.objective.insert_row_in_objective.Goals as goal

pub load_row-requires : goal.load_row-requires
load_row-requires c =
    let f = held-room _ _ _ _ c.requires.standing.sound.held (lines-few _ _ c.requires.standing.sound) in
    record { n_le_cell_room = omega (arith, f); k_lt_row_room = omega (arith, c.requires.standing.sound.named.few-symbols); i_lt_top_row = omega (arith, c.requires.i_bound, c.requires.standing.sound.few); ascending = c.requires.standing.sound.held.up; narrow = narrow-held _ _ c.requires.standing.sound }

pub returns : goal.returns
unfolding row_goal
returns c = row-in-objective _ _ _ _ _ _ _ _ c.requires.standing c.requires.le_i c.requires.i_bound refl c.load_row.ensures c.insert_cells-w.ensures c.joined.ensures
