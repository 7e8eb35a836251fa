use native.Mathlib.Omega.{arith}
use Rattle.std.proofs.Common.{◌∙◌, length-set}
use mathlib.Core.Bool.{false}
use Rattle.waist.specs.substituting.Held.{held-room}
use Rattle.waist.specs.Working.{lines-few}
use Rattle.waist.specs.Pivoting.{narrow-held}
use Rattle.addition.specs.creation.Building.{loaded-row, loaded-set}
use Rattle.addition.specs.creation.Terms.{row-inserted}
use Rattle.addition.proofs.creation.term.insert_loaded.Goals as goal

pub load_row-requires : goal.load_row-requires
load_row-requires c = let f = held-room _ _ _ _ c.requires.standing.sound.held (lines-few _ _ c.requires.standing.sound) in
    record { n_le_cell_room = omega (arith, f); k_lt_row_room = omega (arith, c.requires.standing.sound.named.few-symbols); i_lt_top_row = omega (arith, c.requires.i_bound, c.requires.standing.sound.few); ascending = c.requires.standing.sound.held.up; narrow = narrow-held _ _ c.requires.standing.sound }

pub overflow_add-other : goal.overflow_add-other
overflow_add-other c = omega (arith, c.from.ensures, c.requires.standing.sound.few, c.requires.i_bound)

pub bounds-reals-from : goal.bounds-reals-from
bounds-reals-from c = omega (arith, c.from.ensures, c.requires.standing.sound.few, c.requires.i_bound)

pub insert_row-w-requires : goal.insert_row-w-requires
insert_row-w-requires c = omega (arith, c.requires.standing.sound.named.few-symbols)

pub returns : goal.returns
returns c = row-inserted _ _ _ c.args.row.now _ _ _ c.requires.standing c.told-row (length-set _ _ _ ∙ omega arith) (loaded-row false _ _ c.requires.standing.sound c.args.other.now _ c.told-other (length-set _ _ _ ∙ omega arith) (loaded-set c.args.reals.now _ _ c.load_row.ensures c.from.ensures)) c.insert_row-w.ensures.wrote_value c.insert_row-w.ensures.row_after c.joined.ensures
