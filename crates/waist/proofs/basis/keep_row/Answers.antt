use mathlib.Core.List.{[]}
use mathlib.Core.Path.{refl}
use native.Mathlib.Omega.{arith}
use Rattle.waist.specs.substituting.Held.{held-room}
use Rattle.waist.specs.Working.{lines-by}
use Rattle.waist.specs.KeepCalls.{keep-room, keep-calls}
use Rattle.waist.proofs.basis.keep_row.Goals as goal

pub open_row-requires : goal.open_row-requires
open_row-requires c =
    let l = lines-by _ _ c.requires.sound c.lines_of-lines.ensures in
    let f = held-room _ _ _ _ l.1 l.0 in
    record { n_le_cell_room = omega (arith, f); ascending = c.requires.sound.held.up }

pub replace_row-size-requires : goal.replace_row-size-requires
replace_row-size-requires c =
    let k = keep-room _ 0 [] _ c.requires.sound _ c.row_spot-z.ensures.lower_bound c.row_spot-z.ensures.upper_bound c.open_row.ensures in
    record { k_bound = k.1; k_lt_row_room = omega (arith, c.requires.sound.named.few-symbols); i_lt_top_row = omega (arith, c.row_spot-z.ensures.upper_bound, c.requires.sound.few); ascending = k.0 }

pub open-requires-2 : goal.open-requires-2
open-requires-2 c =
    let l = lines-by _ _ c.requires.sound c.lines_of-lines.ensures in
    record { i_le_e = omega (arith, c.row_spot-z.ensures.upper_bound, l.3); e_bound = omega (arith, l.0) }

pub returns-clause-does : goal.returns-clause-does
returns-clause-does c =
    let l = lines-by _ _ c.requires.sound c.lines_of-lines.ensures in
    keep-calls _ _ _ _ c.requires.sound c.requires.le_p c.requires.p_bound c.requires.free c.requires.row_count_at_bound c.requires.settled_row _ _ _ _ _ _ _ _ _ c.row_spot-z.ensures.value l.2 c.open_row.ensures c.replace_row-size.ensures c.open.ensures c.open-2.ensures refl
