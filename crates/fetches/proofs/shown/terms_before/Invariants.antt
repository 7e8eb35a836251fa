use Prim.Native.Nat.{◌+◌, ◌*◌, ◌≤◌}
use mathlib.Core.Path.{◌≡◌}
use lib.ListN.{get_or}
use Rattle.laws.specs.Lists.{sum_on}
use Rattle.layout.specs.Layout.{term_room}
use Rattle.sparse.specs.Places.{term_counts_at}
use Rattle.sparse_test.specs.Tested.{term_count}
use Rattle.fetches.proofs.shown.terms_before.Given as goal

abbrev pub invariant-loop-j : goal.invariant-loop-j
invariant-loop-j l = (sum_on (λ k. get_or l.bytes (term_counts_at + k) 0) l.j l.i l.m ≡ term_count l.bytes l.i) × (l.m ≤ l.j * term_room)
