use native.Mathlib.Omega.{arith}
use Rattle.stored.specs.Maps.{names-ascend, number-placed}
use Rattle.stored.proofs.places.number_place.Goals as goal

pub look_up-q-requires : goal.look_up-q-requires
look_up-q-requires c = record { n_bound = omega (arith, c.requires.variables); ascends = names-ascend c.requires }

pub returns : goal.returns
returns c = number-placed _ _ _ _ c.requires c.requires _ _ _ c.look_up-q.ensures.value c.variable_at.ensures
