use Rattle.std.proofs.Common.{ℕ, List, sym, refl, ap, ◌∙◌, Option, Float}
use Rattle.steps.specs.Session.{adds_edit, suggests}
use Rattle.text.specs.Choices.{yes-in, no-in, ap3}
use Rattle.text.specs.Digits.{same_bytes}
use Rattle.text.specs.Floats.{id_of, budget_of, float_of}
use Rattle.text.specs.Names.{addedit_name, suggest_name}
use Rattle.text.specs.Format.{four_words, of_edit}
use Rattle.text.specs.Lines.{as_call}
use Rattle.text.proofs.reading.read_four.Goals as goal

pub returns-then-same : goal.returns-then-same
unfolding four_words
returns-then-same c = (yes-in as_call _ _ (sym (ap (λ (w : List ℕ). same_bytes w addedit_name) c.word_at-name.ensures) ∙ sym c.same.ensures ∙ c.if-same.true) (c.add_edit_call.ensures ∙ ap3 (λ (x : Option ℕ) (y : Option Float) (z : Option ℕ). as_call (of_edit adds_edit x y z)) (c.id_word.ensures ∙ ap id_of c.word_at-a.ensures) (c.float_word.ensures ∙ ap float_of c.word_at-b.ensures) (c.budget_word.ensures ∙ ap budget_of c.word_at-c.ensures)))

pub returns-then-same-2 : goal.returns-then-same-2
unfolding four_words
returns-then-same-2 c =
    (no-in as_call _ _ (sym (ap (λ (w : List ℕ). same_bytes w addedit_name) c.word_at-name.ensures) ∙ sym c.same.ensures ∙ c.if-same.false)
    (yes-in as_call _ _ (sym (ap (λ (w : List ℕ). same_bytes w suggest_name) c.word_at-name.ensures) ∙ sym c.same-2.ensures ∙ c.if-same-2.true) (c.suggest_call.ensures ∙ ap3 (λ (x : Option ℕ) (y : Option Float) (z : Option ℕ). as_call (of_edit suggests x y z)) (c.id_word-then-same-2.ensures ∙ ap id_of c.word_at-a.ensures) (c.float_word-then-same-2.ensures ∙ ap float_of c.word_at-b.ensures) (c.budget_word-then-same-2.ensures ∙ ap budget_of c.word_at-c.ensures))))

pub returns : goal.returns
unfolding four_words
returns c =
    (no-in as_call _ _ (sym (ap (λ (w : List ℕ). same_bytes w addedit_name) c.word_at-name.ensures) ∙ sym c.same.ensures ∙ c.if-same.false)
    (no-in as_call _ _ (sym (ap (λ (w : List ℕ). same_bytes w suggest_name) c.word_at-name.ensures) ∙ sym c.same-2.ensures ∙ c.if-same-2.false) refl))
