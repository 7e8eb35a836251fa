use mathlib.Core.Path.{◌≡◌}
use lib.Dec.{ltb}
use Rattle.laws.specs.Loops.{first}
use Rattle.fetches.specs.Telling.{gone_at, gone_to}
use Rattle.fetches.proofs.listing.gone_to.Given as goal

-- none before place j comes after n
abbrev pub invariant-loop-j : goal.invariant-loop-j
invariant-loop-j l = first (λ i. ltb l.n (gone_at l.words i)) (λ i. i) l.g l.j l.g ≡ gone_to l.words l.g l.e l.n
