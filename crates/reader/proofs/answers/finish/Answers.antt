use Rattle.std.proofs.Common.{sym, ◌∙◌, arith}
use Rattle.reader.specs.AnswerLaws.{constant-over, term-over, too_many, reads_so}
use Rattle.reader.proofs.answers.finish.Goals as goal
use Rattle.reader.proofs.answers.finish.Goals.{then-is_big-via-then-is_big, then-is_big-via-else-is_big+then-k}

pub returns-then-is_big : goal.returns-then-is_big
returns-then-is_big c =
    let a = c.args in
    elim c.then-is_big.branch [
      | then-is_big-via-then-is_big w ↦ constant-over a.numbers.now a.sums.now a.m a.p (sym c.is_big.ensures ∙ w.if-is_big.true)
      | then-is_big-via-else-is_big+then-k w ↦ term-over a.numbers.now a.sums.now a.m a.p c.keep_all-k.ensures (sym c.is_big.ensures ∙ w.if-is_big.false) w.if-k.true
    ]

pub returns-then-k-gt16 : goal.returns-then-k-gt16
returns-then-k-gt16 c = too_many c.args.numbers.now c.args.sums.now c.args.m c.args.p c.keep_all-k.ensures (sym c.is_big.ensures ∙ c.if-is_big.false) c.if-k.false c.if-k-gt16.true

pub returns : goal.returns
returns c = reads_so c.args.numbers.now c.args.sums.now c.args.m c.args.p c.keep_all-k.ensures (sym c.is_big.ensures ∙ c.if-is_big.false) c.if-k.false (omega arith)
