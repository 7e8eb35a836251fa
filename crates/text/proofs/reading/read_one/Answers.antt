use Rattle.std.proofs.Common.{ℕ, List, sym, refl, ap, ◌∙◌}
use Rattle.steps.specs.Number.{usual_cutoff}
use Rattle.text.specs.Choices.{yes-in, no-in}
use Rattle.text.specs.Digits.{same_bytes}
use Rattle.text.specs.Names.{reset_name, fetch_name}
use Rattle.text.specs.Format.{one_word}
use Rattle.text.specs.Lines.{as_call}
use Rattle.text.proofs.reading.read_one.Goals as goal

pub returns-then-same : goal.returns-then-same
unfolding one_word usual_cutoff
returns-then-same c = (yes-in as_call _ _ (sym (ap (λ (w : List ℕ). same_bytes w reset_name) c.word_at-name.ensures) ∙ sym c.same.ensures ∙ c.if-same.true) refl)

pub returns-then-same-2 : goal.returns-then-same-2
unfolding one_word
returns-then-same-2 c =
    (no-in as_call _ _ (sym (ap (λ (w : List ℕ). same_bytes w reset_name) c.word_at-name.ensures) ∙ sym c.same.ensures ∙ c.if-same.false)
    (yes-in as_call _ _ (sym (ap (λ (w : List ℕ). same_bytes w fetch_name) c.word_at-name.ensures) ∙ sym c.same-2.ensures ∙ c.if-same-2.true) refl))

pub returns : goal.returns
unfolding one_word
returns c =
    (no-in as_call _ _ (sym (ap (λ (w : List ℕ). same_bytes w reset_name) c.word_at-name.ensures) ∙ sym c.same.ensures ∙ c.if-same.false)
    (no-in as_call _ _ (sym (ap (λ (w : List ℕ). same_bytes w fetch_name) c.word_at-name.ensures) ∙ sym c.same-2.ensures ∙ c.if-same-2.false) refl))
