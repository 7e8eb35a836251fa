use Rattle.std.proofs.Common.{rules}
use mathlib.Core.Bool.{false}
use mathlib.Core.Path.{sym, ap, subst}
use native.Mathlib.Omega.{arith}
use Rattle.rows.specs.choose.Better.{within}
use Rattle.sparse.specs.Sparse.{row_count}
use Rattle.waist.specs.Working.{Sound}
use Rattle.waist.specs.Choices.{empty-same}
use Rattle.addition.specs.Removed.{looked-by, looked-at, not-basic, is-empty, not-empty}
use Rattle.addition.proofs.temporary.remove_temporary.Goals as goal

pub returns-in_default : goal.returns-in_default
returns-in_default c = let all = not-basic _ _ _ _ (looked-by _ _ c.requires.standing.sound c.requires.temporary c.row_of-f.ensures.value) _ _ c.in_default.is c.purge_temporary.ensures.values_value c.purge_temporary.ensures.goes in record { values_value = all.0; goes = all.1; same = search rules }

pub overflow_cast-i : goal.overflow_cast-i
overflow_cast-i c = let b = within c.row_of-f.ensures.within c.in-Some.is in omega (arith, b, c.requires.standing.sound.few)

pub is_empty_row-requires : goal.is_empty_row-requires
is_empty_row-requires c = let b = within c.row_of-f.ensures.within c.in-Some.is in
    record { sound = subst (Sound false) (sym c.lend.ensures) c.requires.standing.sound; i_bound = rw (ap row_count c.lend.ensures) b.1 }

pub returns-then-is_empty_row : goal.returns-then-is_empty_row
returns-then-is_empty_row c = let all = is-empty _ _ _ _ (looked-by _ _ c.requires.standing.sound c.requires.temporary c.row_of-f.ensures.value) _ _ _ c.in-Some.is (empty-same c.lend.ensures _ c.is_empty_row.ensures) c.if-is_empty_row.true c.purge_temporary-then-is_empty_row.ensures.values_value c.purge_temporary-then-is_empty_row.ensures.goes in record { values_value = all.0; goes = all.1; same = search rules }

pub pivot_temporary-requires : goal.pivot_temporary-requires
pivot_temporary-requires c = let b = within c.row_of-f.ensures.within c.in-Some.is in
    record { standing = c.requires.standing; temporary = c.requires.temporary; looked = looked-at (looked-by _ _ c.requires.standing.sound c.requires.temporary c.row_of-f.ensures.value) c.in-Some.is; le_i = b.0; i_bound = b.1 }

pub returns : goal.returns
returns c = let all = not-empty _ _ _ _ (looked-by _ _ c.requires.standing.sound c.requires.temporary c.row_of-f.ensures.value) _ _ _ c.in-Some.is (empty-same c.lend.ensures _ c.is_empty_row.ensures) c.if-is_empty_row.false c.pivot_temporary.ensures.values_value c.pivot_temporary.ensures.goes in record { values_value = all.0; goes = all.1; same = search rules }
