use Rattle.std.proofs.Common.{ap, ◌∙◌}
use Rattle.text.specs.Choices.{yes, no}
use Rattle.text.specs.Floats.{figure_of, bits_real, minus_real, whole_real, pattern_of, whole_of}
use Rattle.text.proofs.floats.figure_word.Goals as goal

pub returns-in-Some : goal.returns-in-Some
unfolding figure_of
returns-in-Some c = yes _ _ c.in-Some.ensures.0 (c.bits_real.ensures ∙ ap bits_real (c.pattern_word.ensures ∙ ap pattern_of c.in-Some.ensures.1))

pub returns-in-Some-after : goal.returns-in-Some-after
unfolding figure_of
returns-in-Some-after c = no _ _ c.in_default.ensures (yes _ _ c.in-Some-after.ensures.0 (c.minus_real.ensures ∙ ap minus_real (c.whole_word.ensures ∙ ap whole_of c.in-Some-after.ensures.1)))

pub returns : goal.returns
unfolding figure_of
returns c = no _ _ c.in_default.ensures (no _ _ c.in_default-after.ensures (c.whole_real.ensures ∙ ap whole_real c.whole_word-2.ensures))
