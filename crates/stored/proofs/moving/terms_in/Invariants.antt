use Prim.Native.Nat.{◌*◌, ◌≤◌}
use mathlib.Core.Path.{◌≡◌}
use Rattle.laws.specs.Lists.{sum_in, sum_on}
use Rattle.stored.specs.Maps.{counts_in}
use Rattle.stored.proofs.moving.terms_in.Given as goal

abbrev pub invariant-loop-j : goal.invariant-loop-j
invariant-loop-j l = (sum_on (counts_in l.bytes) l.j l.e l.s ≡ sum_in (counts_in l.bytes) l.i l.e) × (l.s ≤ 255 * l.j)
