use mathlib.Core.Path.{◌≡◌}
use lib.Ieee.{nan, ne}
use lib.ListN.{get_or}
use Rattle.laws.specs.Lists.{all_on}
use Rattle.steps.specs.Number.{zero64}
use Rattle.layout.specs.cells.Cells.{present_of}
use Rattle.layout.proofs.cells.search.present.Given as goal

abbrev pub invariant-loop-j : goal.invariant-loop-j
invariant-loop-j l = all_on (λ i. ne (get_or l.vals i nan) zero64) l.j l.n l.ok ≡ present_of l.vals l.n
