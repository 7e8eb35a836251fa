use Rattle.std.proofs.Common.{ℕ, List, sym, ap, ◌∙◌, length-take-le}
use Rattle.text.specs.DigitLaws.{rest}
use Rattle.text.specs.Words.{words_of, word}
use Rattle.text.proofs.words.word_at.Goals as goal

pub slice_bounds-result-end : goal.slice_bounds-result-end
slice_bounds-result-end c = sym (length-take-le c.word_length-n.result _ c.word_length-n.ensures.upper_bound)

pub returns : goal.returns
returns c =
    c.word_length-n.ensures.s_value
    ∙ ap (λ (t : List ℕ). word (words_of t) 0) (rest c.word_start-a.result c.args.s.now)
    ∙ c.word_start-a.ensures.s_value
