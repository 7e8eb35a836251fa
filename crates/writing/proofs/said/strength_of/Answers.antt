use Rattle.writing.specs.Writes.{strength-any}
use Rattle.writing.proofs.said.strength_of.Goals as goal

pub returns-in-AtMost : goal.returns-in-AtMost
returns-in-AtMost c = strength-any c.args.relation c.in-AtMost.s c.in-AtMost.is

pub returns-in-AtMost-2 : goal.returns-in-AtMost-2
returns-in-AtMost-2 c = strength-any c.args.relation c.in-AtMost.s c.in-AtMost.is

pub returns-in-AtMost-3 : goal.returns-in-AtMost-3
returns-in-AtMost-3 c = strength-any c.args.relation c.in-AtMost.s c.in-AtMost.is
