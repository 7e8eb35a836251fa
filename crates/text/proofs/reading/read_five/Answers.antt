use Rattle.std.proofs.Common.{ℕ, List, sym, refl, ap, ◌∙◌, Option, Float}
use Rattle.text.specs.Choices.{yes-in, no-in, ap4}
use Rattle.text.specs.Digits.{same_bytes}
use Rattle.text.specs.Floats.{float_of}
use Rattle.text.specs.Names.{create_name}
use Rattle.text.specs.Format.{five_words, of_reals}
use Rattle.text.specs.Lines.{as_call}
use Rattle.text.proofs.reading.read_five.Goals as goal

pub returns-then-same : goal.returns-then-same
unfolding five_words
returns-then-same c = (yes-in as_call _ _ (sym (ap (λ (w : List ℕ). same_bytes w create_name) c.word_at-name.ensures) ∙ sym c.same.ensures ∙ c.if-same.true) (c.create_call.ensures ∙ ap4 (λ (x : Option Float) (y : Option Float) (z : Option Float) (w : Option Float). as_call (of_reals x y z w)) (c.float_word.ensures ∙ ap float_of c.word_at-a.ensures) (c.float_word-then-same.ensures ∙ ap float_of c.word_at-b.ensures) (c.float_word-then-same-2.ensures ∙ ap float_of c.word_at-c.ensures) (c.float_word-then-same-3.ensures ∙ ap float_of c.word_at-d.ensures)))

pub returns : goal.returns
unfolding five_words
returns c = (no-in as_call _ _ (sym (ap (λ (w : List ℕ). same_bytes w create_name) c.word_at-name.ensures) ∙ sym c.same.ensures ∙ c.if-same.false) refl)
