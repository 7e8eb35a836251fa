use mathlib.Core.Bool.{false}
use mathlib.Core.Path.{refl, sym, ap, subst}
use Rattle.std.proofs.lemmas.Result.{err_from_is_err_and}
use native.Mathlib.Omega.{arith}
use Rattle.rows.specs.choose.Better.{within}
use Rattle.sparse.specs.Sparse.{row_count}
use Rattle.waist.specs.Working.{Sound}
use Rattle.waist.specs.Choices.{dual-entering-same}
use Rattle.waist.specs.FreePlaces.{dual-free}
use Rattle.optimising.specs.Chosen.{turn-ends, turn-stuck, dual-turns, dual-ended, dual-stuck, dual-pivots}
use Rattle.optimising.proofs.dual_turn.Goals as goal

pub returns-in_default-clause-does : goal.returns-in_default-clause-does
returns-in_default-clause-does c = turn-ends dual-turns _ _ _ _ _ c.requires (dual-ended _ _ _ c.get_dual_leaving_row-f.ensures.value c.in_default.is) refl

pub overflow_cast-i : goal.overflow_cast-i
overflow_cast-i c =
    let i = within c.get_dual_leaving_row-f.ensures.within c.in-Some.is in
    omega (arith, i.1, c.requires.sound.few)

pub get_dual_entering_symbol-g-requires : goal.get_dual_entering_symbol-g-requires
get_dual_entering_symbol-g-requires c = let i = within c.get_dual_leaving_row-f.ensures.within c.in-Some.is in
    record { sound = subst (Sound false) (sym c.lend.ensures) c.requires.sound; i_bound = rw (ap row_count c.lend.ensures) i.1 }

pub returns-in_default-g-clause-does : goal.returns-in_default-g-clause-does
returns-in_default-g-clause-does c = turn-stuck dual-turns _ _ _ _ _ (dual-stuck _ _ _ c.get_dual_leaving_row-f.ensures.value c.in-Some.is (dual-entering-same c.lend.ensures _ c.get_dual_entering_symbol-g.ensures) c.in_default-g.is) refl

pub overflow_cast-i-2 : goal.overflow_cast-i-2
overflow_cast-i-2 c =
    let i = within c.get_dual_leaving_row-f.ensures.within c.in-Some.is in
    omega (arith, i.1, c.requires.sound.few)

pub overflow_cast-p : goal.overflow_cast-p
overflow_cast-p c =
    let p = within (dual-entering-same c.lend.ensures _ c.get_dual_entering_symbol-g.ensures).within c.in-Some-g.is in
    omega (arith, p.1, c.requires.sound.named.few-symbols)

pub pivot_within-requires : goal.pivot_within-requires
pivot_within-requires c =
    let i = within c.get_dual_leaving_row-f.ensures.within c.in-Some.is in
    let p = within (dual-entering-same c.lend.ensures _ c.get_dual_entering_symbol-g.ensures).within c.in-Some-g.is in
    record { standing = c.requires; le_i = i.0; i_bound = i.1; le_p = p.0; p_bound = p.1; free = dual-free _ _ _ c.requires c.in-Some-g.is _ i.0 i.1 (dual-entering-same c.lend.ensures _ c.get_dual_entering_symbol-g.ensures) }

pub returns-clause-does : goal.returns-clause-does
returns-clause-does c = c.in_ok-went.ensures.does _ _ _ dual-turns (dual-pivots _ _ _ c.get_dual_leaving_row-f.ensures.value c.in-Some.is (dual-entering-same c.lend.ensures _ c.get_dual_entering_symbol-g.ensures) c.in-Some-g.is)

pub returns-in_err-went-clause-does : goal.returns-in_err-went-clause-does
returns-in_err-went-clause-does c = let p = err_from_is_err_and c.from_residual.result c.from_residual.ensures.1 in rw (p.1, p.2) (c.in_err-went.ensures.does _ _ _ dual-turns (dual-pivots _ _ _ c.get_dual_leaving_row-f.ensures.value c.in-Some.is (dual-entering-same c.lend.ensures _ c.get_dual_entering_symbol-g.ensures) c.in-Some-g.is))
