use Prim.Native.Nat.{ℕ, ◌+◌, ◌≤◌, ◌<◌}
use mathlib.Core.Path.{◌≡◌, refl}
use mathlib.Core.List.{List}
use native.Mathlib.Omega.{arith}
use borrow.Author.Tests.{lt-ltb, le-ltb}
use lib.ListN.{get_or}
use Rattle.sparse.specs.Places.{variable_numbers_at, variable_places_at}
use Rattle.sparse.specs.Lookup.{place_from}
use Rattle.sparse_test.specs.Stretch.{most}
use Rattle.sparse_test.specs.Tested.{index_in, number_in}
use Rattle.fetches.proofs.shown.number_of.Goals as goal

module _ (w b : List ℕ) (v p : ℕ) where
  found : {i : ℕ} → i ≡ place_from b variable_places_at v p → i < v → get_or w (variable_numbers_at + i) 0 ≡ number_in w b v p
  unfolding number_in index_in place_from
  found {i} e h = rw (← e, lt-ltb i v h) refl

  none : {i : ℕ} → i ≡ place_from b variable_places_at v p → v ≤ i → 0 ≡ number_in w b v p
  unfolding number_in index_in place_from
  none {i} e h = rw (← e, le-ltb i v h) refl

pub overflow_cast-result : goal.overflow_cast-result
overflow_cast-result c =
    let q = most c.args.words.now variable_numbers_at c.args.v _ c.requires.greatest_u32_value c.byte_from-i.result c.if-i-v.true in
    omega (arith, q)

pub returns-then-i-v : goal.returns-then-i-v
returns-then-i-v c = found _ _ _ _ c.byte_from-i.ensures.value c.if-i-v.true

pub returns : goal.returns
returns c = none _ _ _ _ c.byte_from-i.ensures.value c.if-i-v.false
