use Prim.Native.Nat.{◌+◌}
use mathlib.Core.Path.{◌≡◌}
use lib.ListN.{get_or}
use Rattle.laws.specs.Loops.{run}
use Rattle.sparse.specs.Places.{most_terms}
use Rattle.sparse_test.specs.Tested.{index_in, tally, count_uses}
use Rattle.sparse_test.specs.Tally.{Most}
use Rattle.sparse_test.proofs.uses.count_uses.Given as goal

abbrev pub invariant-loop-j : goal.invariant-loop-j
invariant-loop-j l = (run (λ q z. tally (index_in l.bytes l.v (get_or l.bytes (l.a + q) 0)) z) l.j l.n l.counts ≡ count_uses l.bytes l.v l.a l.n l.initial.counts) × Most l.counts (most_terms + l.j)
