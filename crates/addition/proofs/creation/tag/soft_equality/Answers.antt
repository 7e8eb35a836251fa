use native.Mathlib.Omega.{arith}
use lib.Ieee.{of_bits, neg}
use Rattle.steps.specs.Number.{one64, minus_one64}
use Rattle.addition.specs.creation.Tags.{errors-tags}
use Rattle.addition.proofs.creation.tag.soft_equality.Goals as goal

pub add_error-v-requires : goal.add_error-v-requires
add_error-v-requires c = record { standing = c.requires.standing; values_bound = omega (arith, c.requires.values_bound); values_bound_2 = omega (arith, c.requires.values_bound_2) }

pub add_error-w-requires : goal.add_error-w-requires
add_error-w-requires c = record { standing = c.add_error-v.ensures.builds.stands; values_bound = omega (arith, c.add_error-v.ensures.grows.symbols, c.requires.values_bound); values_bound_2 = omega (arith, c.add_error-v.ensures.grows.next, c.requires.values_bound_2) }

pub returns : goal.returns
unfolding one64 minus_one64 of_bits neg
returns c = errors-tags _ _ _ _ _ _ _ _ _ _ _ c.add_error-v.ensures.grows c.add_error-v.ensures.builds c.add_error-w.ensures.grows c.add_error-w.ensures.builds (omega (arith, c.add_error-v.ensures.grows.symbols))
