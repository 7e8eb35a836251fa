use Prim.Native.Nat.{◌≤◌}
use mathlib.Core.Path.{◌≡◌}
use Rattle.laws.specs.Lists.{sum_in, sum_on}
use Rattle.sparse.specs.Places.{most_constraints, most_terms}
use Rattle.sparse_test.specs.Tested.{term_count}
use Rattle.refusals.specs.Refusals.{taken_at}
use Rattle.refusals.proofs.gone.term_uses.Given as goal

abbrev pub invariant-loop-c : goal.invariant-loop-c
invariant-loop-c l =
    (sum_on (taken_at l.words l.bytes l.x l.p) l.c l.e l.s ≡ sum_in (taken_at l.words l.bytes l.x l.p) 0 l.e) × (l.from ≡ term_count l.bytes l.c) × (l.s ≤ l.from) × (l.c ≤ l.e) × (l.e ≤ most_constraints) × (term_count l.bytes l.e ≤ most_terms) × (l.from ≤ most_terms)
