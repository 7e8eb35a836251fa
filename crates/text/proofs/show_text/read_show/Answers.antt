use Rattle.std.proofs.Common.{ℕ, List, length, sym, refl, ap, ◌∙◌, eq-eqb, ne_eqb}
use Rattle.text.specs.Choices.{yes, no}
use Rattle.text.specs.Digits.{same_bytes}
use Rattle.text.specs.Floats.{id_of}
use Rattle.text.specs.Words.{words_of}
use Rattle.text.specs.show_text.Show.{show_name, asks_for}
use Rattle.text.proofs.show_text.read_show.Goals as goal

pub returns-then-count_words-ne2 : goal.returns-then-count_words-ne2
unfolding asks_for
returns-then-count_words-ne2 c = no _ _ (ne_eqb (length (words_of c.args.s.now)) 2 (λ e. c.if-count_words-ne2.true (c.count_words.ensures ∙ e))) refl

pub returns-then-same : goal.returns-then-same
unfolding asks_for
returns-then-same c =
    yes _ _ (eq-eqb (length (words_of c.args.s.now)) 2 (sym c.count_words.ensures ∙ c.if-count_words-ne2.false))
    (yes _ _ (sym (ap (λ (w : List ℕ). same_bytes w show_name) c.word_at.ensures) ∙ sym c.same.ensures ∙ c.if-same.true) (c.id_word.ensures ∙ ap id_of c.word_at-then-same.ensures))

pub returns : goal.returns
unfolding asks_for
returns c =
    yes _ _ (eq-eqb (length (words_of c.args.s.now)) 2 (sym c.count_words.ensures ∙ c.if-count_words-ne2.false))
    (no _ _ (sym (ap (λ (w : List ℕ). same_bytes w show_name) c.word_at.ensures) ∙ sym c.same.ensures ∙ c.if-same.false) refl)
