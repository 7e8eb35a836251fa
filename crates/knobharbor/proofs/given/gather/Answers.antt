use Rattle.std.proofs.Common.{arith}
use Rattle.laws.specs.Loops.{run-next, run-last}
use Rattle.knobharbor.specs.Given.{term_at, gather-starts}
use Rattle.knobharbor.proofs.given.gather.Goals as goal

pub loop-i-init : goal.loop-i-init
loop-i-init c = gather-starts _ _ c.none-p.ensures

pub loop-i-preserved : goal.loop-i-preserved
unfolding term_at
loop-i-preserved c = run-next _ _ _ _ (omega arith) c.push-p.ensures c.loop-i.invariant

pub returns : goal.returns
returns c = run-last _ _ _ _ (omega arith) c.loop-i.invariant
