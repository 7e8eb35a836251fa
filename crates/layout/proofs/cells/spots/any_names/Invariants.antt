use Prim.Native.Nat.{◌+◌}
use mathlib.Core.Path.{◌≡◌}
use mathlib.Core.Bool.{false}
use Rattle.layout.specs.cells.Spots.{Unnamed}
use Rattle.layout.proofs.cells.spots.any_names.Given as goal

abbrev pub invariant-loop-j : goal.invariant-loop-j
invariant-loop-j l = l.on ≡ false → Unnamed l.keys l.p l.a (l.a + l.j)
