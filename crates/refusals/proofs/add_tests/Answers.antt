use mathlib.Core.Path.{refl, sym}
use native.Mathlib.Omega.{arith}
use Rattle.std.proofs.Common.{rules, ne_eqb}
use Rattle.std.proofs.lemmas.Result.{err_from_is_err_and}
use Rattle.refusals.specs.Refusals.{add_refusal}
use Rattle.refusals.proofs.add_tests.Goals as goal

pub is_live-requires : goal.is_live-requires
is_live-requires c = record { c_bound = omega arith; ascends = search rules }

pub returns-then-g-eq0 : goal.returns-then-g-eq0
unfolding add_refusal
returns-then-g-eq0 c = rw c.if-g-eq0.true refl

pub returns-in_err-input_tests : goal.returns-in_err-input_tests
unfolding add_refusal
returns-in_err-input_tests c =
    let p = err_from_is_err_and c.from_residual.result c.from_residual.ensures.1 in
    rw (p.1, p.2, ne_eqb _ _ c.if-g-eq0.false) (c.in_err-input_tests.ensures _)

pub returns-then-is_live : goal.returns-then-is_live
unfolding add_refusal
returns-then-is_live c = rw (ne_eqb _ _ c.if-g-eq0.false, sym c.is_live.ensures, c.if-is_live.true) (c.in_ok-input_tests.ensures 4)

pub returns : goal.returns
unfolding add_refusal
returns c = rw (ne_eqb _ _ c.if-g-eq0.false, sym c.is_live.ensures, c.if-is_live.false, sym c.room_tests.ensures) (c.in_ok-input_tests.ensures _)
