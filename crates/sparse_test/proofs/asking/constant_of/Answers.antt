use Prim.Native.Nat.{ℕ, ◌+◌, ◌≤◌, ◌<◌}
use mathlib.Core.Path.{◌≡◌, refl}
use mathlib.Core.List.{List}
use lib.Ieee.{Float, nan}
use lib.ListN.{get_or}
use borrow.Author.Tests.{lt-ltb, le-ltb}
use Rattle.steps.specs.Number.{zero64}
use Rattle.sparse.specs.Places.{row_places_at, constants_at}
use Rattle.sparse.specs.Lookup.{place_from}
use Rattle.sparse_test.specs.Asked.{constant_of}
use Rattle.sparse_test.proofs.asking.constant_of.Goals as goal

module _ (b : List ℕ) (f : List Float) (r p : ℕ) where
  found : {i : ℕ} → i ≡ place_from b (row_places_at + 1) r p → i < r → get_or f (constants_at + 1 + i) nan ≡ constant_of b f r p
  unfolding constant_of
  found {i} e h = rw (← e, lt-ltb i r h) refl

  none : {i : ℕ} → i ≡ place_from b (row_places_at + 1) r p → r ≤ i → zero64 ≡ constant_of b f r p
  unfolding constant_of
  none {i} e h = rw (← e, le-ltb i r h) refl

pub returns-then-i-r : goal.returns-then-i-r
returns-then-i-r c = found _ _ _ _ c.byte_from-i.ensures.value c.if-i-r.true

pub returns-else-i-r : goal.returns-else-i-r
unfolding zero64
returns-else-i-r c = none _ _ _ _ c.byte_from-i.ensures.value c.if-i-r.false
