use mathlib.Core.Path.{refl}
use Rattle.steps.specs.State.{strength_of}
use Rattle.changes.specs.tags.Tags.{relation_of}
use Rattle.addition.proofs.inputs.strength_of.Goals as goal

pub returns-in-AtMost : goal.returns-in-AtMost
unfolding strength_of relation_of
returns-in-AtMost c = rw c.in-AtMost.is refl

pub returns-in-Equal : goal.returns-in-Equal
unfolding strength_of relation_of
returns-in-Equal c = rw c.in-Equal.is refl

pub returns-in-AtLeast : goal.returns-in-AtLeast
unfolding strength_of relation_of
returns-in-AtLeast c = rw c.in-AtLeast.is refl
