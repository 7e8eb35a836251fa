use mathlib.Core.Path.{refl}
use native.Mathlib.Omega.{arith}
use Rattle.addition.specs.creation.Growth.{grows-reals, error-builds}
use Rattle.addition.proofs.creation.tag.add_error.Goals as goal

pub add_symbol-v-requires : goal.add_symbol-v-requires
add_symbol-v-requires c = record { standing = c.requires.standing; values_bound = c.requires.values_bound; values_bound_2 = c.requires.values_bound_2 }

pub insert_in_objective-requires : goal.insert_in_objective-requires
insert_in_objective-requires c = record { standing = c.add_symbol-v.ensures.builds.stands; le_p = omega arith; p_bound = omega (arith, c.add_symbol-v.ensures.grows.symbols); free = c.add_symbol-v.ensures.grows.free }

pub returns : goal.returns
returns c = record { grows = grows-reals _ _ _ _ _ _ c.add_symbol-v.ensures.grows; builds = error-builds _ _ _ _ _ _ _ _ _ _ c.add_symbol-v.ensures.grows c.add_symbol-v.ensures.builds c.insert_in_objective.ensures refl }
