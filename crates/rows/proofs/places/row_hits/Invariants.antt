use Rattle.std.proofs.Common.{◌≡◌, ◌≤◌, get_or}
use lib.Ieee.{nan}
use Rattle.laws.specs.Lists.{sum_on}
use Rattle.rows.specs.places.Marked.{cell_fits, marked, hit, hits_in}
use Rattle.rows.proofs.places.row_hits.Given as goal

abbrev pub invariant-loop-j : goal.invariant-loop-j
invariant-loop-j l = (sum_on (λ y. hit (cell_fits (marked l.marks y) (get_or l.row y nan))) l.j l.e l.hits ≡ hits_in l.row l.marks l.a l.e) × (l.hits ≤ l.j)
