use native.Mathlib.Omega.{arith}
use Rattle.waist.specs.substituting.Held.{held-room, held-lined}
use Rattle.waist.specs.Working.{lines-few}
use Rattle.optimising.specs.suggestion.Shifts.{shift-calls}
use Rattle.optimising.proofs.suggestion.shifting.shift_constants.Goals as goal

pub drag_of-d-requires : goal.drag_of-d-requires
drag_of-d-requires c = c.requires.standing.sound.few

pub shift_rows-requires : goal.shift_rows-requires
shift_rows-requires c =
    let f = held-room _ _ _ _ c.requires.standing.sound.held (lines-few _ _ c.requires.standing.sound) in
    record { row_count_at_bound = c.requires.standing.sound.few; cell_count_at_bound = omega (arith, f); variable_count_at_bound = c.requires.standing.sound.named.few-variables; ascending = c.requires.standing.sound.held.up; lined = held-lined _ _ _ _ c.requires.standing.sound.held (lines-few _ _ c.requires.standing.sound) }

pub returns : goal.returns
returns c = shift-calls _ _ _ _ _ _ c.requires.standing c.requires.le_marker c.requires.marker_bound c.requires.other_bound c.drag_of-d.ensures c.shift_rows.ensures
