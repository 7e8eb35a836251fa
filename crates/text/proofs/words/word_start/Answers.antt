use Rattle.std.proofs.Common.{◌≡◌, length, arith}
use Rattle.text.specs.Words.{skip-space, skip-other, skip-last}
use Rattle.text.proofs.words.word_start.Goals as goal
use Rattle.text.proofs.words.word_start.Goals.{then-s-i-eq32, else-s-i-eq32}

pub returns-then-left-eq0 : goal.returns-then-left-eq0
returns-then-left-eq0 c = record { upper_bound = omega arith; s_value = rw c.if-left-eq0.true at c.loop-i.invariant }

pub loop-i-preserved : goal.loop-i-preserved
loop-i-preserved c =
    elim c.if-s-i-eq32.branch [
      | then-s-i-eq32 w ↦ (rw w.left-is (skip-space c.args.s.now c.loop-i.i c.loop-i.left (omega arith) (omega arith) w.if-s-i-eq32.true c.loop-i.invariant))
      | else-s-i-eq32 w ↦ (rw w.left-is (skip-other c.args.s.now c.loop-i.i c.loop-i.left (omega arith) (omega arith) w.if-s-i-eq32.false c.loop-i.invariant))
    ]

pub returns : goal.returns
returns c =
    let e : c.loop-i.i ≡ length c.args.s.now = omega arith in
    record { upper_bound = omega arith; s_value = skip-last c.args.s.now (length c.args.s.now) c.loop-i.left (omega arith) (rw e at c.loop-i.invariant) }
