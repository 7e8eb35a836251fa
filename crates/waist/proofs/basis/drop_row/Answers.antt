use mathlib.Core.Path.{refl}
use native.Mathlib.Omega.{arith}
use lib.Ieee.{nan}
use Rattle.waist.specs.substituting.Held.{held-room}
use Rattle.waist.specs.Working.{lines-by}
use Rattle.waist.specs.Dropping.{drop-calls}
use Rattle.waist.proofs.basis.drop_row.Goals as goal

pub drop_row-left-requires : goal.drop_row-left-requires
drop_row-left-requires c =
    let l = lines-by _ _ c.requires.sound c.lines_of-lines.ensures in
    let f = held-room _ _ _ _ l.1 l.0 in
    record { n_le_cell_room = omega (arith, f); i_lt_top_row = omega (arith, c.requires.i_bound, c.requires.sound.few); ascending = c.requires.sound.held.up }

pub close-requires-2 : goal.close-requires-2
close-requires-2 c =
    let l = lines-by _ _ c.requires.sound c.lines_of-lines.ensures in
    record { i_le_e = omega (arith, c.requires.i_bound, l.3); e_bound = omega (arith, l.0) }

pub returns-clause-does : goal.returns-clause-does
returns-clause-does c =
    let l = lines-by _ _ c.requires.sound c.lines_of-lines.ensures in
    drop-calls _ _ _ c.requires.sound c.requires.le_i c.requires.i_bound _ _ _ _ _ _ _ l.2 c.drop_row-left.ensures (c.close.ensures 0) (c.close-2.ensures nan) refl
