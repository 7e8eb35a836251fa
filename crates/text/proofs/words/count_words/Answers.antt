use Rattle.std.proofs.Common.{arith}
use Rattle.text.specs.Words.{count-space, count-other, count-last}
use Rattle.text.proofs.words.count_words.Goals as goal
use Rattle.text.proofs.words.count_words.Goals.{then-b-eq32, else-b-eq32}

pub loop-b-preserved : goal.loop-b-preserved
loop-b-preserved c =
    elim c.if-b-eq32.branch [
      | then-b-eq32 w ↦ (omega arith, rw w.n-is (count-space c.args.s.now c.loop-b.b-index c.loop-b.n (omega arith) w.if-b-eq32.true c.loop-b.invariant.1))
      | else-b-eq32 w ↦ (omega arith, rw w.n-is (count-other c.args.s.now c.loop-b.b-index c.loop-b.n (omega arith) w.if-b-eq32.false c.loop-b.invariant.1))
    ]

pub returns : goal.returns
returns c = count-last c.args.s.now c.loop-b.b-index c.loop-b.n (omega arith) c.loop-b.invariant.1
