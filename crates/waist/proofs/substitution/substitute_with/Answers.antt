use mathlib.Core.Path.{refl}
use native.Mathlib.Omega.{arith}
use Rattle.rows.specs.Marks.{joined-mark}
use Rattle.waist.specs.substituting.Held.{held-room, held-lined}
use Rattle.waist.specs.substituting.Loose.{loose-run}
use Rattle.waist.specs.Working.{lines-by}
use Rattle.waist.specs.Substitutes.{substitute-calls}
use Rattle.waist.proofs.substitution.substitute_with.Goals as goal

pub fill_spots-requires : goal.fill_spots-requires
fill_spots-requires c =
    let l = lines-by _ _ c.requires.sound c.lines_of-lines.ensures in
    let f = held-room _ _ _ _ l.1 l.0 in
    record { n_le_cell_room = omega (arith, f); lined = held-lined _ _ _ _ l.1 l.0; spots_value = c.requires.spots_value }

pub note_rows-requires : goal.note_rows-requires
note_rows-requires c =
    let l = lines-by _ _ c.requires.sound c.lines_of-lines.ensures in
    record { lines_le_most_rows = l.0; count_le_most_rows = omega (arith, c.requires.sound.few); at_le_last_place = omega (arith, c.requires.at_bound, c.requires.sound.named.few-symbols); held = l.1; spots = c.fill_spots.ensures; variable_count_at_bound = c.requires.sound.named.few-variables }

pub substitute_lines-r-requires : goal.substitute_lines-r-requires
substitute_lines-r-requires c =
    let l = lines-by _ _ c.requires.sound c.lines_of-lines.ensures in
    record { count_le_most_rows = l.0; at_le_last_place = omega (arith, c.requires.at_bound, c.requires.sound.named.few-symbols); size_le_row_room = omega (arith, c.loose_run.ensures.upper_bound, c.requires.sound.named.few-symbols); held = l.1; spots = c.fill_spots.ensures; run_of = loose-run _ _ _ _ _ _ _ c.requires.sound.named.few-symbols (omega arith) (omega arith) c.loose_run.ensures.run_after }

pub substitute_objective-v-requires : goal.substitute_objective-v-requires
substitute_objective-v-requires c = record { at_le_last_place = omega (arith, c.requires.at_bound, c.requires.sound.named.few-symbols); width_le_last_place = c.requires.sound.named.few-symbols }

pub returns-clause-does : goal.returns-clause-does
returns-clause-does c =
    let l = lines-by _ _ c.requires.sound c.lines_of-lines.ensures in
    substitute-calls _ _ _ _ c.requires.sound c.requires.le_at c.requires.at_bound c.requires.settled_row _ _ _ _ _ (omega arith) (omega arith) c.loose_run.ensures.run_after _ _ _ _ _ _ _ _ _ _ _ l.2 c.note_rows.ensures c.substitute_lines-r.ensures c.substitute_objective-v.ensures refl
    (joined-mark _ _ c.joined.ensures refl refl)
