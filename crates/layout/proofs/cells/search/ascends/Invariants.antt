use Prim.Native.Nat.{◌-◌}
use mathlib.Core.Path.{◌≡◌}
use lib.Dec.{ltb}
use lib.ListN.{get_or}
use Rattle.laws.specs.Lists.{all_on}
use Rattle.layout.specs.cells.Cells.{ascends_of}
use Rattle.layout.proofs.cells.search.ascends.Given as goal

abbrev pub invariant-loop-j : goal.invariant-loop-j
invariant-loop-j l = all_on (λ i. ltb (get_or l.keys (i - 1) 0) (get_or l.keys i 0)) l.j l.n l.ok ≡ ascends_of l.keys l.n
