use native.Mathlib.Omega.{arith}
use Rattle.steps.specs.Strength.{required}
use Rattle.addition.specs.creation.Tags.{soft-tags, required-tags}
use Rattle.addition.proofs.creation.tag.equality.Goals as goal

pub soft_equality-requires : goal.soft_equality-requires
soft_equality-requires c = record { standing = c.requires.standing; values_bound = c.requires.values_bound; values_bound_2 = c.requires.values_bound_2 }

pub returns-then-strength : goal.returns-then-strength
unfolding required
returns-then-strength c = soft-tags _ c.if-strength.true c.soft_equality.ensures

pub required_equality-requires : goal.required_equality-requires
required_equality-requires c = record { standing = c.requires.standing; values_bound = omega (arith, c.requires.values_bound); values_bound_2 = omega (arith, c.requires.values_bound_2) }

pub returns : goal.returns
unfolding required
returns c = required-tags _ c.if-strength.false c.required_equality.ensures
