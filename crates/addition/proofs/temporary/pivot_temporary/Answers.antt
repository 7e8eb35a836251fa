use Rattle.std.proofs.Common.{rules}
use mathlib.Core.Bool.{false}
use mathlib.Core.Path.{refl, sym, ap, subst}
use native.Mathlib.Omega.{arith}
use Rattle.rows.specs.choose.Better.{within}
use Rattle.sparse.specs.Sparse.{row_count}
use Rattle.waist.specs.Working.{Sound}
use Rattle.waist.specs.Choices.{pivotable-same}
use Rattle.waist.specs.FreePlaces.{pivotable-free}
use Rattle.addition.specs.Symbols.{alike-later, temporary-alike}
use Rattle.addition.specs.Removed.{pivotable-none, pivot-refused, pivot-gone}
use Rattle.std.proofs.lemmas.Result.{err_from_is_err_and}
use Rattle.waist.specs.Ending.{refuses}
use Rattle.addition.proofs.temporary.pivot_temporary.Goals as goal

pub returns-in_default : goal.returns-in_default
returns-in_default c = let all = pivotable-none _ _ _ _ _ c.requires.looked refl (pivotable-same c.lend.ensures _ c.any_pivotable_symbol-f.ensures) c.in_default.is in record { values_value = all.0; goes = all.1; same = search rules }

pub any_pivotable_symbol-f-requires : goal.any_pivotable_symbol-f-requires
any_pivotable_symbol-f-requires c = record { sound = subst (Sound false) (sym c.lend.ensures) c.requires.standing.sound; i_bound = rw (ap row_count c.lend.ensures) c.requires.i_bound }

pub overflow_cast-q : goal.overflow_cast-q
overflow_cast-q c = let b = within (pivotable-same c.lend.ensures _ c.any_pivotable_symbol-f.ensures).within c.in-Some.is in omega (arith, b, c.requires.standing.sound.named.few-symbols)

pub pivot_on-w-requires : goal.pivot_on-w-requires
pivot_on-w-requires c = let b = within (pivotable-same c.lend.ensures _ c.any_pivotable_symbol-f.ensures).within c.in-Some.is in
    record { standing = c.requires.standing; le_i = c.requires.le_i; i_bound = c.requires.i_bound; le_p = b.0; p_bound = b.1; free = pivotable-free _ _ _ c.requires.standing c.in-Some.is _ c.requires.le_i c.requires.i_bound (pivotable-same c.lend.ensures _ c.any_pivotable_symbol-f.ensures) }

pub returns-in_err-check_finite : goal.returns-in_err-check_finite
returns-in_err-check_finite c = let p = err_from_is_err_and c.from_residual.result c.from_residual.ensures.1 in rw (p.1, p.2) (let all = pivot-refused _ _ _ _ _ c.requires.looked refl (pivotable-same c.lend.ensures _ c.any_pivotable_symbol-f.ensures) _ c.in-Some.is _ _ c.pivot_on-w.ensures.makes c.in_err-check_finite.ensures (refuses _) in record { values_value = all.0; goes = all.1; same = search rules })

pub purge_temporary-requires : goal.purge_temporary-requires
purge_temporary-requires c = record { standing = c.pivot_on-w.ensures.makes.stands; temporary = temporary-alike _ _ _ (alike-later _ _ c.pivot_on-w.ensures.later c.requires.standing.sound.named.few-symbols) c.requires.temporary }

pub returns : goal.returns
returns c = let a = alike-later _ _ c.pivot_on-w.ensures.later c.requires.standing.sound.named.few-symbols in
    let all = pivot-gone _ _ _ _ _ c.requires.looked refl (pivotable-same c.lend.ensures _ c.any_pivotable_symbol-f.ensures) _ c.in-Some.is _ _ c.pivot_on-w.ensures.makes c.in_ok-check_finite.ensures refl (a.at _ c.requires.temporary.low c.requires.temporary.high) _ _ c.purge_temporary.ensures.values_value c.purge_temporary.ensures.goes in record { values_value = all.0; goes = all.1; same = search rules }
