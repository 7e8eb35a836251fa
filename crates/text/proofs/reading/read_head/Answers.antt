use Rattle.std.proofs.Common.{ℕ, List, ap, ◌∙◌, Option, Float}
use Rattle.text.specs.Choices.{ap2, ap4}
use Rattle.text.specs.Floats.{id_of, budget_of, float_of}
use Rattle.text.specs.Format.{relation_of}
use Rattle.text.specs.Lines.{as_related, head_of, head_at}
use Rattle.text.proofs.reading.read_head.Goals as goal

pub returns : goal.returns
unfolding head_at
returns c =
    c.add_call.ensures
    ∙ ap4 (head_of c.args.group)
    (c.id_word-c.ensures ∙ ap id_of c.word_at-3.ensures)
    (c.budget_word-b.ensures ∙ ap budget_of c.word_at-4.ensures)
    (c.relation_word-relation.ensures ∙ ap2 (λ (w : List ℕ) (x : Option Float). as_related (relation_of w x)) c.word_at-2.ensures (c.float_word-strength.ensures ∙ ap float_of c.word_at.ensures))
    (c.float_word-k.ensures ∙ ap float_of c.word_at-5.ensures)
