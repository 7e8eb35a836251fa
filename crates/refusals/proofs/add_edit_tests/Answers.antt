use mathlib.Core.Path.{refl, sym}
use Rattle.steps.specs.Strength.{required}
use Rattle.refusals.specs.Refusals.{add_edit_refusal}
use Rattle.refusals.proofs.add_edit_tests.Goals as goal

pub returns-then-is_edited : goal.returns-then-is_edited
unfolding add_edit_refusal
returns-then-is_edited c = rw (sym c.is_edited.ensures, c.if-is_edited.true) refl

pub returns-then-strength : goal.returns-then-strength
unfolding add_edit_refusal required
returns-then-strength c = rw (sym c.is_edited.ensures, c.if-is_edited.false, c.if-strength.true) refl

pub returns : goal.returns
unfolding add_edit_refusal required
returns c = rw (sym c.is_edited.ensures, c.if-is_edited.false, c.if-strength.false, sym c.edit_pack.ensures) c.room_tests.ensures
