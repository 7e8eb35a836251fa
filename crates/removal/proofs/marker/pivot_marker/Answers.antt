use Rattle.std.proofs.Common.{rules}
use Rattle.rows.specs.Marks.{mark_of}
use Rattle.removal.specs.Reading.{count_same, rows_same}
use Rattle.removal.specs.Marker.{noted-symbols, noted-rows, noted-free, pivots-marker}
use Rattle.removal.proofs.marker.pivot_marker.Goals as goal

pub returns : goal.returns
returns c = let all = pivots-marker (mark_of c.args.before) _ _ _ _ _ c.args.pivots _ _ c.requires.le_i c.requires.i_bound c.requires.le_p c.requires.p_bound (c.note_leaving.ensures (mark_of c.args.before) c.requires.standing) c.pivot_on-w.ensures.makes c.check_finite.ensures in record { values_value = all.0; goes = all.1; same = search rules }

pub note_leaving-requires : goal.note_leaving-requires
note_leaving-requires c = record { sound = c.requires.standing.sound; le_i = c.requires.le_i; i_bound = c.requires.i_bound }

pub pivot_on-w-requires : goal.pivot_on-w-requires
pivot_on-w-requires c = let m = c.note_leaving.ensures (mark_of c.args.before) c.requires.standing in
    record { standing = m.stands; le_i = c.requires.le_i; i_bound = rw (rows_same _ _ (noted-rows _ _ _ _ m)) c.requires.i_bound; le_p = c.requires.le_p; p_bound = rw (count_same _ _ (noted-symbols _ _ _ _ m)) c.requires.p_bound; free = noted-free _ _ _ _ m _ c.requires.standing.sound c.requires.le_p c.requires.p_bound c.requires.free }
