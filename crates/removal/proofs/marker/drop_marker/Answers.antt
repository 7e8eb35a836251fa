use Rattle.sparse.specs.Tables.{held}
use Rattle.std.proofs.Common.{rules}
use mathlib.Core.Path.{sym, ◌∙◌}
use native.Mathlib.Omega.{arith}
use Rattle.rows.specs.Marks.{mark_of}
use Rattle.rows.specs.choose.Better.{within}
use Rattle.waist.specs.Rows.{row_at}
use Rattle.removal.specs.Marker.{row_of, row-dropped, row-symbol, dropped-basic}
use Rattle.removal.proofs.marker.drop_marker.Goals as goal

pub returns-in_default : goal.returns-in_default
returns-in_default c = record { values_value = c.enter_and_drop.ensures.values_value; goes = c.enter_and_drop.ensures.goes; same = search rules }

pub returns : goal.returns
returns c = let all = dropped-basic c.args.before _ _ c.args.pivots _ _ (row_of _ c.requires.standing.sound _ c.requires.le_p c.requires.p_bound _ (sym c.row_of-f.ensures.value ∙ c.in-Some.is)) (row-dropped _ _ _ _ (row-symbol (held c.args.room.now) _ _ (row_at (held c.args.room.now) _ _ (sym c.row_of-f.ensures.value ∙ c.in-Some.is))) (c.drop_on.ensures.makes (mark_of c.args.before) c.requires.standing)) in record { values_value = all.0; goes = all.1; same = search rules }

pub row_of-f-requires : goal.row_of-f-requires
row_of-f-requires c = c.requires.standing.sound.few

pub enter_and_drop-requires : goal.enter_and_drop-requires
enter_and_drop-requires c = record { standing = c.requires.standing; le_p = c.requires.le_p; p_bound = c.requires.p_bound; bytes_value = sym c.row_of-f.ensures.value ∙ c.in_default.is }

pub overflow_cast-i : goal.overflow_cast-i
overflow_cast-i c = let b = within c.row_of-f.ensures.within c.in-Some.is in omega (arith, b, c.requires.standing.sound.few)

pub drop_on-requires : goal.drop_on-requires
drop_on-requires c = let b = within c.row_of-f.ensures.within c.in-Some.is in
    record { sound = c.requires.standing.sound; le_i = b.0; i_bound = b.1 }
