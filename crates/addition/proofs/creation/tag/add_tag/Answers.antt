use lib.Ieee.{of_bits, neg}
use Rattle.steps.specs.Number.{one64, minus_one64}
use Rattle.addition.specs.creation.Tags.{at-most-tags, equal-tags, at-least-tags}
use Rattle.addition.proofs.creation.tag.add_tag.Goals as goal

pub inequality-requires : goal.inequality-requires
inequality-requires c = record { standing = c.requires.standing; values_bound = c.requires.values_bound; values_bound_2 = c.requires.values_bound_2 }

pub equality-requires : goal.equality-requires
equality-requires c = record { standing = c.requires.standing; values_bound = c.requires.values_bound; values_bound_2 = c.requires.values_bound_2 }

pub inequality-requires-in-AtLeast : goal.inequality-requires-in-AtLeast
inequality-requires-in-AtLeast c = record { standing = c.requires.standing; values_bound = c.requires.values_bound; values_bound_2 = c.requires.values_bound_2 }

pub returns-in-AtMost : goal.returns-in-AtMost
unfolding one64
returns-in-AtMost c = at-most-tags _ c.in-AtMost.is c.inequality.ensures

pub returns-in-Equal : goal.returns-in-Equal
returns-in-Equal c = equal-tags _ c.in-Equal.is c.equality.ensures

pub returns-in-AtLeast : goal.returns-in-AtLeast
unfolding minus_one64 of_bits neg
returns-in-AtLeast c = at-least-tags _ c.in-AtLeast.is c.inequality-in-AtLeast.ensures
