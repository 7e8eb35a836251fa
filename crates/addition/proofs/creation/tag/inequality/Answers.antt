use native.Mathlib.Omega.{arith}
use Rattle.steps.specs.Strength.{required}
use Rattle.addition.specs.creation.Tags.{slack-tags, pair-tags}
use Rattle.addition.proofs.creation.tag.inequality.Goals as goal

pub add_symbol-v-requires : goal.add_symbol-v-requires
add_symbol-v-requires c = record { standing = c.requires.standing; values_bound = omega (arith, c.requires.values_bound); values_bound_2 = omega (arith, c.requires.values_bound_2) }

pub add_error-w-requires : goal.add_error-w-requires
add_error-w-requires c = record { standing = c.add_symbol-v.ensures.builds.stands; values_bound = omega (arith, c.add_symbol-v.ensures.grows.symbols, c.requires.values_bound); values_bound_2 = omega (arith, c.add_symbol-v.ensures.grows.next, c.requires.values_bound_2) }

pub returns-then-strength : goal.returns-then-strength
unfolding required
returns-then-strength c = pair-tags _ _ _ _ _ _ _ _ _ _ _ _ c.add_symbol-v.ensures.grows c.add_symbol-v.ensures.builds c.add_error-w.ensures.grows c.add_error-w.ensures.builds c.if-strength.true (omega (arith, c.add_symbol-v.ensures.grows.symbols))

pub returns : goal.returns
unfolding required
returns c = slack-tags _ _ _ _ _ _ _ _ c.add_symbol-v.ensures.grows c.add_symbol-v.ensures.builds c.if-strength.false
