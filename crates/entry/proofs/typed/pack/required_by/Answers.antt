use Rattle.std.proofs.Common.{refl}
use Rattle.steps.specs.Strength.{required}
use Rattle.changes.specs.tags.Tags.{relation_of}
use Rattle.entry.specs.typed.Typed.{required_by}
use Rattle.entry.proofs.typed.pack.required_by.Goals as goal

pub returns-in-AtMost : goal.returns-in-AtMost
unfolding relation_of required_by required
returns-in-AtMost c = rw c.in-AtMost.is refl

pub returns-in-Equal : goal.returns-in-Equal
unfolding relation_of required_by required
returns-in-Equal c = rw c.in-Equal.is refl

pub returns-in-AtLeast : goal.returns-in-AtLeast
unfolding relation_of required_by required
returns-in-AtLeast c = rw c.in-AtLeast.is refl
