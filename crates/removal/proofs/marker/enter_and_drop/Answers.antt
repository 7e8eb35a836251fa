use Rattle.std.proofs.Common.{rules}
use native.Mathlib.Omega.{arith}
use Rattle.rows.specs.Marks.{mark_of}
use Rattle.rows.specs.choose.Better.{within}
use Rattle.sparse.specs.Sparse.{symbol_count}
use Rattle.waist.specs.Working.{Sound}
use Rattle.waist.specs.Choices.{marker-same}
use Rattle.removal.specs.Reading.{count_same}
use Rattle.removal.specs.Bound.{goes_given}
use Rattle.removal.specs.Marker.{no-row-of, free-lone, dropped-stuck, dropped-refused, entered-symbols, dropped-entered}
use Rattle.std.proofs.lemmas.Result.{err_from_is_err_and}
use Rattle.waist.specs.Ending.{ended_of, refuses}
use Rattle.std.specs.Prelude.{Ok}
use mathlib.Core.Bool.{false}
use mathlib.Core.Path.{refl, sym, ap, subst}
use Rattle.removal.proofs.marker.enter_and_drop.Goals as goal

pub returns-in_default : goal.returns-in_default
returns-in_default c = let all = dropped-stuck c.args.before _ _ c.args.pivots (no-row-of _ c.requires.standing.sound _ c.requires.le_p c.requires.p_bound c.requires.bytes_value) _ ((marker-same c.lend.ensures _ c.get_marker_leaving_row-f.ensures).is (mark_of c.args.before) c.args.pivots) c.in_default.is in record { values_value = all.0; goes = all.1; same = search rules }

pub returns-in_err-went : goal.returns-in_err-went
returns-in_err-went c = let p = err_from_is_err_and c.from_residual.result c.from_residual.ensures.1 in rw (p.1, p.2) (let all = dropped-refused c.args.before _ _ c.args.pivots (no-row-of _ c.requires.standing.sound _ c.requires.le_p c.requires.p_bound c.requires.bytes_value) _ ((marker-same c.lend.ensures _ c.get_marker_leaving_row-f.ensures).is (mark_of c.args.before) c.args.pivots) _ c.in-Some.is _ _ (c.in_err-went.ensures.values_value, c.in_err-went.ensures.goes) (refuses _) in record { values_value = all.0; goes = all.1; same = search rules })

pub returns : goal.returns
returns c = let all = dropped-entered c.args.before _ _ c.args.pivots (no-row-of _ c.requires.standing.sound _ c.requires.le_p c.requires.p_bound c.requires.bytes_value) _ ((marker-same c.lend.ensures _ c.get_marker_leaving_row-f.ensures).is (mark_of c.args.before) c.args.pivots) _ c.in-Some.is _ _ (c.in_ok-went.ensures.values_value, c.in_ok-went.ensures.goes) _ c.requires.le_p c.requires.p_bound refl (c.drop_row_of.ensures.does _ (goes_given (ended_of (Ok c.in_ok-went.went)) _ refl c.in_ok-went.ensures.goes)) in record { values_value = all.0; goes = all.1; same = search rules }

pub get_marker_leaving_row-f-requires : goal.get_marker_leaving_row-f-requires
get_marker_leaving_row-f-requires c = record { sound = subst (Sound false) (sym c.lend.ensures) c.requires.standing.sound; le_p = c.requires.le_p; p_bound = rw (ap symbol_count c.lend.ensures) c.requires.p_bound }

pub overflow_cast-i : goal.overflow_cast-i
overflow_cast-i c = let b = within (marker-same c.lend.ensures _ c.get_marker_leaving_row-f.ensures).within c.in-Some.is in omega (arith, b, c.requires.standing.sound.few)

pub pivot_marker-requires : goal.pivot_marker-requires
pivot_marker-requires c = let b = within (marker-same c.lend.ensures _ c.get_marker_leaving_row-f.ensures).within c.in-Some.is in
    record { standing = c.requires.standing; le_i = b.0; i_bound = b.1; le_p = c.requires.le_p; p_bound = c.requires.p_bound; free = free-lone _ _ (no-row-of _ c.requires.standing.sound _ c.requires.le_p c.requires.p_bound c.requires.bytes_value) }

pub drop_row_of-requires : goal.drop_row_of-requires
drop_row_of-requires c = let q = entered-symbols c.args.before _ _ c.args.pivots (no-row-of _ c.requires.standing.sound _ c.requires.le_p c.requires.p_bound c.requires.bytes_value) _ ((marker-same c.lend.ensures _ c.get_marker_leaving_row-f.ensures).is (mark_of c.args.before) c.args.pivots) _ c.in-Some.is _ _ (c.in_ok-went.ensures.values_value, c.in_ok-went.ensures.goes) refl in
    record { sound = (goes_given (ended_of (Ok c.in_ok-went.went)) _ refl c.in_ok-went.ensures.goes).sound; le_p = c.requires.le_p; p_bound = rw (count_same _ _ q) c.requires.p_bound }
