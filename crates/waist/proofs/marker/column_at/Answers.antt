use native.Mathlib.Omega.{arith}
use Rattle.waist.specs.substituting.Held.{held-room}
use Rattle.waist.specs.Working.{lines-few}
use Rattle.waist.specs.Ratios.{column_at}
use Rattle.waist.proofs.marker.column_at.Goals as goal

pub spot_cell-requires : goal.spot_cell-requires
spot_cell-requires c =
    let f = held-room _ _ _ _ c.requires.sound.held (lines-few _ _ c.requires.sound) in
    record { n_le_cell_room = omega (arith, f); i_lt_lines_room = omega (arith, c.requires.i_le_most_rows); ascending = c.requires.sound.held.up; spots = c.requires.spots }

pub returns : goal.returns
unfolding column_at
returns c = c.spot_cell.ensures
