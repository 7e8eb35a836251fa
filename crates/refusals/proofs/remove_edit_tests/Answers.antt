use mathlib.Core.Path.{refl, sym}
use Rattle.refusals.specs.Refusals.{remove_edit_refusal}
use Rattle.refusals.proofs.remove_edit_tests.Goals as goal

pub returns-then-not-is_edited : goal.returns-then-not-is_edited
unfolding remove_edit_refusal
returns-then-not-is_edited c = rw (sym c.is_edited.ensures, c.if-not-is_edited.true) refl

pub returns-then-gone_full : goal.returns-then-gone_full
unfolding remove_edit_refusal
returns-then-gone_full c = rw (sym c.is_edited.ensures, c.if-not-is_edited.false, sym c.gone_full.ensures, c.if-gone_full.true) refl

pub returns : goal.returns
unfolding remove_edit_refusal
returns c = rw (sym c.is_edited.ensures, c.if-not-is_edited.false, sym c.gone_full.ensures, c.if-gone_full.false) refl
