use Rattle.std.proofs.Common.{◌<◌, ◌+◌, sym, ap, ◌∙◌, arith, length}
use Rattle.std.specs.Prelude.{Some}
use Rattle.reader.specs.second.Replies.{Reply}
use Rattle.cable_lines.specs.Given.{as_begun, same-begun}
use Rattle.cable_lines.specs.State.{kept-all, kept-ends}
use Rattle.cable_lines.proofs.step.Goals as goal

pub returns-then-at-piece : goal.returns-then-at-piece
returns-then-at-piece c = ap as_begun (sym (kept-all c.keep_line-at.ensures.kept c.if-at-piece.true))

pub returns : goal.returns
returns c =
    let l : c.keep_line-at.result < length c.args.piece.now = omega (arith, c.keep_line-at.ensures.kept.within) in
    same-begun (ap (λ (x : Reply). record { answer = Some x; taken = c.keep_line-at.result + 1 }) c.answer_held-answer.ensures) c.renew.ensures
    ∙ ap as_begun (sym (kept-ends c.keep_line-at.ensures.kept l (c.keep_line-at.ensures.result_value l)))
