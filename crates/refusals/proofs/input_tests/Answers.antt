use mathlib.Core.Path.{refl, sym}
use Rattle.std.proofs.Common.{ne_eqb}
use Rattle.steps.specs.Number.{below_zero, zero64}
use Rattle.refusals.specs.Refusals.{input_refusal}
use Rattle.refusals.proofs.input_tests.Goals as goal

pub returns-then-not-finite : goal.returns-then-not-finite
unfolding input_refusal
returns-then-not-finite c rest = rw (sym c.is_finite.ensures, sym c.is_finite-2.ensures, c.if-not-finite.true) refl

pub returns-then-strength : goal.returns-then-strength
unfolding input_refusal below_zero zero64
returns-then-strength c rest = rw (sym c.is_finite.ensures, sym c.is_finite-2.ensures, c.if-not-finite.false, c.if-strength.true) refl

pub returns-then-p-eq17 : goal.returns-then-p-eq17
unfolding input_refusal below_zero zero64
returns-then-p-eq17 c rest = rw (sym c.is_finite.ensures, sym c.is_finite-2.ensures, c.if-not-finite.false, c.if-strength.false, c.if-p-eq17.true) refl

pub returns : goal.returns
unfolding input_refusal below_zero zero64
returns c rest = rw (sym c.is_finite.ensures, sym c.is_finite-2.ensures, c.if-not-finite.false, c.if-strength.false, ne_eqb _ _ c.if-p-eq17.false) refl
