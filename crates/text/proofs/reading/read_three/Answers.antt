use Rattle.std.proofs.Common.{ℕ, List, sym, refl, ap, ◌∙◌, Option}
use Rattle.steps.specs.Session.{removes, removes_edit, drops}
use Rattle.text.specs.Choices.{yes-in, no-in, ap2}
use Rattle.text.specs.Digits.{same_bytes}
use Rattle.text.specs.Floats.{id_of, budget_of}
use Rattle.text.specs.Names.{remove_name, removeedit_name, drop_name}
use Rattle.text.specs.Format.{three_words, of_id_budget, of_id_budget}
use Rattle.text.specs.Lines.{as_call}
use Rattle.text.proofs.reading.read_three.Goals as goal

pub returns-then-same : goal.returns-then-same
unfolding three_words
returns-then-same c = (yes-in as_call _ _ (sym (ap (λ (w : List ℕ). same_bytes w remove_name) c.word_at-name.ensures) ∙ sym c.same.ensures ∙ c.if-same.true) (c.remove_call.ensures ∙ ap2 (λ (x : Option ℕ) (y : Option ℕ). as_call (of_id_budget removes x y)) (c.id_word.ensures ∙ ap id_of c.word_at-a.ensures) (c.budget_word.ensures ∙ ap budget_of c.word_at-b.ensures)))

pub returns-then-same-2 : goal.returns-then-same-2
unfolding three_words
returns-then-same-2 c =
    (no-in as_call _ _ (sym (ap (λ (w : List ℕ). same_bytes w remove_name) c.word_at-name.ensures) ∙ sym c.same.ensures ∙ c.if-same.false)
    (yes-in as_call _ _ (sym (ap (λ (w : List ℕ). same_bytes w removeedit_name) c.word_at-name.ensures) ∙ sym c.same-2.ensures ∙ c.if-same-2.true) (c.remove_edit_call.ensures ∙ ap2 (λ (x : Option ℕ) (y : Option ℕ). as_call (of_id_budget removes_edit x y)) (c.id_word-then-same-2.ensures ∙ ap id_of c.word_at-a.ensures) (c.budget_word-then-same-2.ensures ∙ ap budget_of c.word_at-b.ensures))))

pub returns-then-same-3 : goal.returns-then-same-3
unfolding three_words
returns-then-same-3 c =
    (no-in as_call _ _ (sym (ap (λ (w : List ℕ). same_bytes w remove_name) c.word_at-name.ensures) ∙ sym c.same.ensures ∙ c.if-same.false)
    (no-in as_call _ _ (sym (ap (λ (w : List ℕ). same_bytes w removeedit_name) c.word_at-name.ensures) ∙ sym c.same-2.ensures ∙ c.if-same-2.false)
    (yes-in as_call _ _ (sym (ap (λ (w : List ℕ). same_bytes w drop_name) c.word_at-name.ensures) ∙ sym c.same-3.ensures ∙ c.if-same-3.true) (c.drop_call.ensures ∙ ap2 (λ (x : Option ℕ) (y : Option ℕ). as_call (of_id_budget drops x y)) (c.budget_word-then-same-3.ensures ∙ ap budget_of c.word_at-a.ensures) (c.budget_word-then-same-3-2.ensures ∙ ap budget_of c.word_at-b.ensures)))))

pub returns : goal.returns
unfolding three_words
returns c =
    (no-in as_call _ _ (sym (ap (λ (w : List ℕ). same_bytes w remove_name) c.word_at-name.ensures) ∙ sym c.same.ensures ∙ c.if-same.false)
    (no-in as_call _ _ (sym (ap (λ (w : List ℕ). same_bytes w removeedit_name) c.word_at-name.ensures) ∙ sym c.same-2.ensures ∙ c.if-same-2.false)
    (no-in as_call _ _ (sym (ap (λ (w : List ℕ). same_bytes w drop_name) c.word_at-name.ensures) ∙ sym c.same-3.ensures ∙ c.if-same-3.false) refl)))
