use Prim.Native.Nat.{◌≤◌}
use mathlib.Core.Path.{◌≡◌}
use Rattle.laws.specs.Lists.{sum_on}
use Rattle.refusals.specs.Refusals.{new_at, new_in}
use Rattle.refusals.proofs.new_variables.Given as goal

abbrev pub invariant-loop-i : goal.invariant-loop-i
invariant-loop-i l = (sum_on (new_at l.words l.v l.p) l.i l.e l.s ≡ new_in l.words l.v l.p) × (l.s ≤ l.i)
