use mathlib.Core.Path.{sym, ap, ◌∙◌}
use Rattle.reader.specs.second.Replies.{as_reply}
use Rattle.cable_lines.specs.State.{answer-within, answer-over}
use Rattle.cable_lines.proofs.answer_held.Goals as goal

pub returns-then-n-le200 : goal.returns-then-n-le200
returns-then-n-le200 c = c.read_front.ensures ∙ ap as_reply (sym (answer-within c.args.s.now c.if-n-le200.true))

pub returns : goal.returns
returns c = ap as_reply (sym (answer-over c.args.s.now c.if-n-le200.false))
