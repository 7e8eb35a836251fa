use Rattle.steps.specs.State.{comparison_of}
use Rattle.layout.specs.Layout.{comparison_code}
use Rattle.changes.specs.tags.Tags.{relation_of}
use Rattle.std.proofs.Common.{rules}
use Rattle.solver.proofs.bringing.kind_of.Goals as goal

pub returns-in-AtMost : goal.returns-in-AtMost
unfolding comparison_code comparison_of relation_of
returns-in-AtMost c = search rules

pub returns-in-Equal : goal.returns-in-Equal
unfolding comparison_code comparison_of relation_of
returns-in-Equal c = search rules

pub returns-in-AtLeast : goal.returns-in-AtLeast
unfolding comparison_code comparison_of relation_of
returns-in-AtLeast c = search rules
