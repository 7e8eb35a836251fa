use Rattle.std.proofs.Common.{sym, ap}
use Rattle.writing.specs.Writes.{mark_in}
use Rattle.writing.proofs.said.mark_of.Goals as goal

pub returns-in-AtMost : goal.returns-in-AtMost
unfolding mark_in
returns-in-AtMost c = sym (ap mark_in c.in-AtMost.is)

pub returns-in-Equal : goal.returns-in-Equal
unfolding mark_in
returns-in-Equal c = sym (ap mark_in c.in-Equal.is)

pub returns-in-AtLeast : goal.returns-in-AtLeast
unfolding mark_in
returns-in-AtLeast c = sym (ap mark_in c.in-AtLeast.is)
