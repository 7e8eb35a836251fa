use native.Mathlib.Omega.{arith}
use Rattle.variables.specs.Found.{placed_at, placed-nowhere}
use Rattle.std.proofs.Common.{rules}
use Rattle.variables.proofs.found.find_variable.Goals as goal

pub look_up-v-requires : goal.look_up-v-requires
look_up-v-requires c = record { n_bound = omega arith; ascends = search rules }

pub returns-then-v-e : goal.returns-then-v-e
returns-then-v-e c = record { value = placed_at _ _ c.look_up-v.ensures.value c.if-v-e.true; below = c.if-v-e.true }

pub returns : goal.returns
returns c = record { value = placed-nowhere _ _ c.look_up-v.ensures.value c.if-v-e.false; below = tt }
