use Rattle.std.specs.Prelude.{option_map}
use Rattle.std.proofs.Common.{ℕ, List, sym, refl, ap, ◌∙◌, Option, Float}
use Rattle.steps.specs.Session.{resets, value_of, has_constraints, has_edits, clips}
use Rattle.text.specs.Choices.{yes-in, no-in}
use Rattle.text.specs.Digits.{same_bytes}
use Rattle.text.specs.Floats.{id_of, float_of}
use Rattle.text.specs.Names.{value_name, hascon_name, hasedit_name, clip_name, reset_name}
use Rattle.text.specs.Format.{two_words}
use Rattle.text.specs.Lines.{as_call}
use Rattle.text.proofs.reading.read_two.Goals as goal

pub returns-then-same : goal.returns-then-same
unfolding two_words
returns-then-same c = (yes-in as_call _ _ (sym (ap (λ (w : List ℕ). same_bytes w value_name) c.word_at-name.ensures) ∙ sym c.same.ensures ∙ c.if-same.true) (c.value_call.ensures ∙ ap (λ (x : Option ℕ). as_call (option_map value_of x)) (c.id_word.ensures ∙ ap id_of c.word_at-a.ensures)))

pub returns-then-same-2 : goal.returns-then-same-2
unfolding two_words
returns-then-same-2 c =
    (no-in as_call _ _ (sym (ap (λ (w : List ℕ). same_bytes w value_name) c.word_at-name.ensures) ∙ sym c.same.ensures ∙ c.if-same.false)
    (yes-in as_call _ _ (sym (ap (λ (w : List ℕ). same_bytes w hascon_name) c.word_at-name.ensures) ∙ sym c.same-2.ensures ∙ c.if-same-2.true) (c.has_con_call.ensures ∙ ap (λ (x : Option ℕ). as_call (option_map has_constraints x)) (c.id_word-then-same-2.ensures ∙ ap id_of c.word_at-a.ensures))))

pub returns-then-same-3 : goal.returns-then-same-3
unfolding two_words
returns-then-same-3 c =
    (no-in as_call _ _ (sym (ap (λ (w : List ℕ). same_bytes w value_name) c.word_at-name.ensures) ∙ sym c.same.ensures ∙ c.if-same.false)
    (no-in as_call _ _ (sym (ap (λ (w : List ℕ). same_bytes w hascon_name) c.word_at-name.ensures) ∙ sym c.same-2.ensures ∙ c.if-same-2.false)
    (yes-in as_call _ _ (sym (ap (λ (w : List ℕ). same_bytes w hasedit_name) c.word_at-name.ensures) ∙ sym c.same-3.ensures ∙ c.if-same-3.true) (c.has_edit_call.ensures ∙ ap (λ (x : Option ℕ). as_call (option_map has_edits x)) (c.id_word-then-same-3.ensures ∙ ap id_of c.word_at-a.ensures)))))

pub returns-then-same-4 : goal.returns-then-same-4
unfolding two_words
returns-then-same-4 c =
    (no-in as_call _ _ (sym (ap (λ (w : List ℕ). same_bytes w value_name) c.word_at-name.ensures) ∙ sym c.same.ensures ∙ c.if-same.false)
    (no-in as_call _ _ (sym (ap (λ (w : List ℕ). same_bytes w hascon_name) c.word_at-name.ensures) ∙ sym c.same-2.ensures ∙ c.if-same-2.false)
    (no-in as_call _ _ (sym (ap (λ (w : List ℕ). same_bytes w hasedit_name) c.word_at-name.ensures) ∙ sym c.same-3.ensures ∙ c.if-same-3.false)
    (yes-in as_call _ _ (sym (ap (λ (w : List ℕ). same_bytes w clip_name) c.word_at-name.ensures) ∙ sym c.same-4.ensures ∙ c.if-same-4.true) (c.clip_call.ensures ∙ ap (λ (x : Option Float). as_call (option_map clips x)) (c.float_word.ensures ∙ ap float_of c.word_at-a.ensures))))))

pub returns-then-same-5 : goal.returns-then-same-5
unfolding two_words
returns-then-same-5 c =
    (no-in as_call _ _ (sym (ap (λ (w : List ℕ). same_bytes w value_name) c.word_at-name.ensures) ∙ sym c.same.ensures ∙ c.if-same.false)
    (no-in as_call _ _ (sym (ap (λ (w : List ℕ). same_bytes w hascon_name) c.word_at-name.ensures) ∙ sym c.same-2.ensures ∙ c.if-same-2.false)
    (no-in as_call _ _ (sym (ap (λ (w : List ℕ). same_bytes w hasedit_name) c.word_at-name.ensures) ∙ sym c.same-3.ensures ∙ c.if-same-3.false)
    (no-in as_call _ _ (sym (ap (λ (w : List ℕ). same_bytes w clip_name) c.word_at-name.ensures) ∙ sym c.same-4.ensures ∙ c.if-same-4.false)
    (yes-in as_call _ _ (sym (ap (λ (w : List ℕ). same_bytes w reset_name) c.word_at-name.ensures) ∙ sym c.same-5.ensures ∙ c.if-same-5.true) (c.reset_call.ensures ∙ ap (λ (x : Option Float). as_call (option_map resets x)) (c.float_word-then-same-5.ensures ∙ ap float_of c.word_at-a.ensures)))))))

pub returns : goal.returns
unfolding two_words
returns c =
    (no-in as_call _ _ (sym (ap (λ (w : List ℕ). same_bytes w value_name) c.word_at-name.ensures) ∙ sym c.same.ensures ∙ c.if-same.false)
    (no-in as_call _ _ (sym (ap (λ (w : List ℕ). same_bytes w hascon_name) c.word_at-name.ensures) ∙ sym c.same-2.ensures ∙ c.if-same-2.false)
    (no-in as_call _ _ (sym (ap (λ (w : List ℕ). same_bytes w hasedit_name) c.word_at-name.ensures) ∙ sym c.same-3.ensures ∙ c.if-same-3.false)
    (no-in as_call _ _ (sym (ap (λ (w : List ℕ). same_bytes w clip_name) c.word_at-name.ensures) ∙ sym c.same-4.ensures ∙ c.if-same-4.false)
    (no-in as_call _ _ (sym (ap (λ (w : List ℕ). same_bytes w reset_name) c.word_at-name.ensures) ∙ sym c.same-5.ensures ∙ c.if-same-5.false) refl)))))
