use Rattle.std.proofs.Common.{sym, refl, ap, ◌∙◌, Some}
use lib.Ieee.{div, of_bits}
use Rattle.steps.specs.Strength.{required}
use Rattle.text.specs.Choices.{yes, no}
use Rattle.text.specs.Floats.{float_of}
use Rattle.text.proofs.floats.float_word.Goals as goal

pub returns-then-same : goal.returns-then-same
unfolding float_of
returns-then-same c = yes _ _ (sym c.same.ensures ∙ c.if-same.true) (ap Some c.float_of_bits.ensures)

pub returns-then-same-2 : goal.returns-then-same-2
unfolding float_of
returns-then-same-2 c = no _ _ (sym c.same.ensures ∙ c.if-same.false) (yes _ _ (sym c.same-2.ensures ∙ c.if-same-2.true) (ap Some c.float_of_bits-then-same-2.ensures))

pub returns-then-same-3 : goal.returns-then-same-3
unfolding float_of div of_bits
returns-then-same-3 c = no _ _ (sym c.same.ensures ∙ c.if-same.false) (no _ _ (sym c.same-2.ensures ∙ c.if-same-2.false) (yes _ _ (sym c.same-3.ensures ∙ c.if-same-3.true) (refl)))

pub returns-then-same-4 : goal.returns-then-same-4
unfolding float_of required
returns-then-same-4 c = no _ _ (sym c.same.ensures ∙ c.if-same.false) (no _ _ (sym c.same-2.ensures ∙ c.if-same-2.false) (no _ _ (sym c.same-3.ensures ∙ c.if-same-3.false) (yes _ _ (sym c.same-4.ensures ∙ c.if-same-4.true) (refl))))

pub returns : goal.returns
unfolding float_of
returns c = no _ _ (sym c.same.ensures ∙ c.if-same.false) (no _ _ (sym c.same-2.ensures ∙ c.if-same-2.false) (no _ _ (sym c.same-3.ensures ∙ c.if-same-3.false) (no _ _ (sym c.same-4.ensures ∙ c.if-same-4.false) c.figure_word.ensures)))
