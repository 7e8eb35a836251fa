use mathlib.Core.Path.{ap}
use mathlib.Core.List.{List}
use Prim.Native.Nat.{◌+◌}
use native.Mathlib.Omega.{arith}
use lib.Ieee.{Float, nan}
use lib.ListN.{set}
use Rattle.sparse.specs.Places.{suggestions_at}
use Rattle.solver.specs.Backed.{reals-back}
use Rattle.solver.proofs.back.put_reals.Goals as goal

pub overflow_add-reals : goal.overflow_add-reals
overflow_add-reals c = omega (arith, c.requires.j_lt_most_constraints)

pub offset_bounds-reals-j : goal.offset_bounds-reals-j
offset_bounds-reals-j c = omega (arith, c.requires.j_lt_most_constraints)

pub bounds-reals-j : goal.bounds-reals-j
bounds-reals-j c = omega (arith, c.requires.j_lt_most_constraints)

pub returns : goal.returns
returns c = ap (λ (l : List Float). set l (suggestions_at + c.args.j) c.args.new) (reals-back c.args.wreals.now c.args.k c.args.r c.args.reals.now (c.part.ensures nan) (c.part-2.ensures nan))
