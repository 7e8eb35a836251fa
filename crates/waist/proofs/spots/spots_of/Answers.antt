use native.Mathlib.Omega.{arith}
use Rattle.waist.specs.substituting.Held.{held-room, held-lined}
use Rattle.waist.specs.Working.{lines-few}
use Rattle.waist.proofs.spots.spots_of.Goals as goal

pub fill_spots-requires : goal.fill_spots-requires
fill_spots-requires c =
    let f = held-room _ _ _ _ c.requires.held (lines-few _ _ c.requires) in
    record { n_le_cell_room = omega (arith, f); lined = held-lined _ _ _ _ c.requires.held (lines-few _ _ c.requires); spots_value = c.no_spots-spots.ensures }
