use mathlib.Core.Path.{refl, sym}
use Rattle.refusals.specs.Refusals.{suggest_refusal}
use Rattle.refusals.proofs.suggest_tests.Goals as goal

pub returns-then-not-is_finite : goal.returns-then-not-is_finite
unfolding suggest_refusal
returns-then-not-is_finite c = rw (sym c.is_finite.ensures, c.if-not-is_finite.true) refl

pub returns-then-not-is_edited : goal.returns-then-not-is_edited
unfolding suggest_refusal
returns-then-not-is_edited c = rw (sym c.is_finite.ensures, c.if-not-is_finite.false, sym c.is_edited.ensures, c.if-not-is_edited.true) refl

pub returns : goal.returns
unfolding suggest_refusal
returns c = rw (sym c.is_finite.ensures, c.if-not-is_finite.false, sym c.is_edited.ensures, c.if-not-is_edited.false) refl
