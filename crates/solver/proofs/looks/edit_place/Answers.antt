use mathlib.Core.Path.{refl}
use native.Mathlib.Omega.{arith}
use Rattle.solver.specs.Placed.{edit_place}
use Rattle.std.proofs.Common.{rules}
use Rattle.solver.proofs.looks.edit_place.Goals as goal

pub look_up-z-requires : goal.look_up-z-requires
look_up-z-requires c = record { n_bound = omega arith; ascends = search rules }

pub overflow_add-z : goal.overflow_add-z
overflow_add-z c = omega (arith, c.look_up-z.ensures.upper_bound)

pub bounds-bytes-z : goal.bounds-bytes-z
bounds-bytes-z c = omega (arith, c.look_up-z.ensures.upper_bound)

pub byte_from-requires : goal.byte_from-requires
byte_from-requires c = omega arith

pub returns : goal.returns
unfolding edit_place
returns c = rw (c.byte_from.ensures.value, c.look_up-z.ensures.value) refl
