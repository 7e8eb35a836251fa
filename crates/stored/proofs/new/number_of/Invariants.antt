use Prim.Native.Nat.{◌+◌}
use mathlib.Core.Path.{◌≡◌}
use lib.Dec.{eqb}
use lib.ListN.{get_or}
use Rattle.laws.specs.Loops.{first}
use Rattle.sparse.specs.Places.{variable_numbers_at, variable_places_at}
use Rattle.stored.specs.Put.{number_of}
use Rattle.stored.proofs.new.number_of.Given as goal

abbrev pub invariant-loop-v : goal.invariant-loop-v
invariant-loop-v l = (first (λ x. eqb l.p (get_or l.bytes (variable_places_at + x) 0)) (λ x. get_or l.words (variable_numbers_at + x) 0) 0 l.v l.e ≡ number_of l.words l.bytes l.p)
