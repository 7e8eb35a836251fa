use mathlib.Core.Path.{refl, sym, ap, subst}
use Rattle.std.proofs.lemmas.Result.{err_from_is_err_and}
use native.Mathlib.Omega.{arith}
use Rattle.rows.specs.choose.Better.{within}
use Rattle.sparse.specs.Sparse.{symbol_count}
use Rattle.waist.specs.Working.{Sound}
use Rattle.waist.specs.Choices.{entering-same, leaving-same}
use Rattle.waist.specs.FreePlaces.{goal-free}
use Rattle.optimising.specs.Chosen.{turn-ends, turn-stuck, optimise-turns, optimise-ended, optimise-stuck, optimise-pivots}
use Rattle.optimising.proofs.optimise_turn.Goals as goal

pub returns-in_default-clause-does : goal.returns-in_default-clause-does
returns-in_default-clause-does c = turn-ends (optimise-turns c.args.art) _ _ _ _ _ c.requires (optimise-ended _ _ _ _ (entering-same c.lend.ensures c.get_goal_entering_symbol-f.ensures) c.in_default.is) refl

pub get_goal_entering_symbol-f-requires : goal.get_goal_entering_symbol-f-requires
get_goal_entering_symbol-f-requires c = subst (Sound c.args.art) (sym c.lend.ensures) c.requires.sound

pub overflow_cast-p : goal.overflow_cast-p
overflow_cast-p c =
    let p = within (entering-same c.lend.ensures c.get_goal_entering_symbol-f.ensures).within c.in-Some.is in
    omega (arith, p.1, c.requires.sound.named.few-symbols)

pub get_leaving_row-g-requires : goal.get_leaving_row-g-requires
get_leaving_row-g-requires c = let p = within (entering-same c.lend.ensures c.get_goal_entering_symbol-f.ensures).within c.in-Some.is in
    record { sound = subst (Sound c.args.art) (sym c.lend-2.ensures) c.requires.sound; le_p = p.0; p_bound = rw (ap symbol_count c.lend-2.ensures) p.1 }

pub returns-in_default-g-clause-does : goal.returns-in_default-g-clause-does
returns-in_default-g-clause-does c = turn-stuck (optimise-turns c.args.art) _ _ _ _ _ (optimise-stuck _ _ _ _ (entering-same c.lend.ensures c.get_goal_entering_symbol-f.ensures) c.in-Some.is (leaving-same c.lend-2.ensures _ c.get_leaving_row-g.ensures) c.in_default-g.is) refl

pub overflow_cast-i : goal.overflow_cast-i
overflow_cast-i c =
    let i = within (leaving-same c.lend-2.ensures _ c.get_leaving_row-g.ensures).within c.in-Some-g.is in
    omega (arith, i.1, c.requires.sound.few)

pub overflow_cast-p-2 : goal.overflow_cast-p-2
overflow_cast-p-2 c =
    let p = within (entering-same c.lend.ensures c.get_goal_entering_symbol-f.ensures).within c.in-Some.is in
    omega (arith, p.1, c.requires.sound.named.few-symbols)

pub pivot_within-requires : goal.pivot_within-requires
pivot_within-requires c =
    let p = within (entering-same c.lend.ensures c.get_goal_entering_symbol-f.ensures).within c.in-Some.is in
    let i = within (leaving-same c.lend-2.ensures _ c.get_leaving_row-g.ensures).within c.in-Some-g.is in
    record { standing = c.requires; le_i = i.0; i_bound = i.1; le_p = p.0; p_bound = p.1; free = goal-free _ _ _ c.requires c.in-Some.is (entering-same c.lend.ensures c.get_goal_entering_symbol-f.ensures) }

pub returns-clause-does : goal.returns-clause-does
returns-clause-does c = c.in_ok-went.ensures.does _ _ _ (optimise-turns c.args.art) (optimise-pivots _ _ _ _ (entering-same c.lend.ensures c.get_goal_entering_symbol-f.ensures) c.in-Some.is (leaving-same c.lend-2.ensures _ c.get_leaving_row-g.ensures) c.in-Some-g.is)

pub returns-in_err-went-clause-does : goal.returns-in_err-went-clause-does
returns-in_err-went-clause-does c = let p = err_from_is_err_and c.from_residual.result c.from_residual.ensures.1 in rw (p.1, p.2) (c.in_err-went.ensures.does _ _ _ (optimise-turns c.args.art) (optimise-pivots _ _ _ _ (entering-same c.lend.ensures c.get_goal_entering_symbol-f.ensures) c.in-Some.is (leaving-same c.lend-2.ensures _ c.get_leaving_row-g.ensures) c.in-Some-g.is))
