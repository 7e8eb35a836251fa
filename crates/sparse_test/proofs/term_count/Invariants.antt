use Prim.Native.Nat.{◌+◌, ◌*◌, ◌≤◌}
use mathlib.Core.Path.{◌≡◌}
use mathlib.Core.Bool.{true}
use lib.ListN.{get_or}
use Rattle.laws.specs.Lists.{sum_on}
use Rattle.layout.specs.Layout.{term_room}
use Rattle.sparse.specs.Places.{term_counts_at}
use Rattle.sparse_test.specs.Stretch.{most_in}
use Rattle.sparse_test.specs.Tested.{term_count}
use Rattle.sparse_test.proofs.term_count.Given as goal

abbrev pub invariant-loop-i : goal.invariant-loop-i
invariant-loop-i l = (sum_on (λ j. get_or l.bytes (term_counts_at + j) 0) l.i l.c l.m ≡ term_count l.bytes l.c) × (l.m ≤ l.i * 255) × (most_in l.bytes term_counts_at l.c term_room ≡ true → l.m ≤ l.i * term_room)
