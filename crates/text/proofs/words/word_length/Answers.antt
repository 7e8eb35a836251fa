use Rattle.std.proofs.Common.{◌≡◌, length, arith}
use Rattle.text.specs.Words.{word_next, word-stop, word-last}
use Rattle.text.proofs.words.word_length.Goals as goal

pub returns-then-s-i-eq32 : goal.returns-then-s-i-eq32
returns-then-s-i-eq32 c = record { upper_bound = omega arith; s_value = word-stop c.args.s.now c.loop-i.i (omega arith) c.if-s-i-eq32.true c.loop-i.invariant }

pub loop-i-preserved : goal.loop-i-preserved
loop-i-preserved c = word_next c.args.s.now c.loop-i.i (omega arith) c.if-s-i-eq32.false c.loop-i.invariant

pub returns : goal.returns
returns c =
    let e : c.loop-i.i ≡ length c.args.s.now = omega arith in
    record { upper_bound = omega arith; s_value = word-last c.args.s.now (length c.args.s.now) (omega arith) (rw e at c.loop-i.invariant) }
