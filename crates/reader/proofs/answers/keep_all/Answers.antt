use native.Mathlib.Omega.{arith}
use lib.ListN.{get_or}
use Rattle.reader.specs.AnswerLaws.{keep-next, keep-last, count_next}
use Rattle.reader.proofs.answers.keep_all.Goals as goal

pub loop-i-preserved : goal.loop-i-preserved
loop-i-preserved c = (count_next c.loop-i.k (get_or c.args.numbers.now c.loop-i.i 0) (get_or c.args.sums.now c.loop-i.i 0) c.keep-k.ensures c.loop-i.invariant.0, keep-next c.args.numbers.now c.args.sums.now c.args.count c.loop-i.i c.loop-i.k (omega arith) (omega arith) (omega arith) c.keep-k.ensures c.loop-i.invariant.1)

pub returns : goal.returns
returns c = keep-last c.args.numbers.now c.args.sums.now c.args.count c.loop-i.i c.loop-i.k (omega arith) c.loop-i.invariant.1
