use native.Mathlib.Omega.{arith}
use Rattle.waist.specs.ArtificialCopy.{copy-room, copy-calls}
use Rattle.waist.proofs.artificial.copy_row.Goals as goal

pub replace_row-size-requires : goal.replace_row-size-requires
replace_row-size-requires c =
    let r = copy-room _ c.requires.sound in
    record { k_bound = r.1; k_lt_row_room = omega (arith, c.requires.sound.named.few-symbols); i_lt_top_row = omega (arith, c.requires.sound.few); ascending = r.0 }

pub returns : goal.returns
returns c = copy-calls _ _ c.requires.sound c.requires.settled_row _ _ _ c.replace_row-size.ensures
