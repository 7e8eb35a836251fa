use Prim.Native.Nat.{◌*◌, ◌%◌, ◌≤◌}
use mathlib.Core.Path.{◌≡◌}
use lib.ListN.{get_or}
use Rattle.laws.specs.Lists.{sum_in, sum_on}
use Rattle.layout.specs.cells.Names.{row_span}
use Rattle.sparse_test.proofs.tableau.open_in.Given as goal

abbrev pub invariant-loop-j : goal.invariant-loop-j
invariant-loop-j l = (sum_on (λ i. get_or l.table (get_or l.keys i 0 % row_span) 0) l.j l.n l.sum ≡ sum_in (λ i. get_or l.table (get_or l.keys i 0 % row_span) 0) 0 l.n) × (l.sum ≤ l.j * 255)
