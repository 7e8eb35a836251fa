use Prim.Native.Nat.{ℕ, ◌+◌, ◌≤◌, ◌<◌}
use mathlib.Core.Path.{◌≡◌, refl}
use mathlib.Core.List.{List}
use borrow.Author.Tests.{lt-ltb, le-ltb}
use lib.ListN.{get_or}
use Rattle.sparse.specs.Places.{variable_numbers_at}
use Rattle.sparse_test.specs.Tested.{index_in, number_in}
use Rattle.sparse_test.proofs.uses.number_at.Goals as goal

module _ (w b : List ℕ) (v p : ℕ) where
  found : {i : ℕ} → i ≡ index_in b v p → i < v → get_or w (variable_numbers_at + i) 0 ≡ number_in w b v p
  unfolding number_in
  found {i} e h = rw (← e, lt-ltb i v h) refl

  none : {i : ℕ} → i ≡ index_in b v p → v ≤ i → 0 ≡ number_in w b v p
  unfolding number_in
  none {i} e h = rw (← e, le-ltb i v h) refl

pub returns-then-i-v : goal.returns-then-i-v
returns-then-i-v c = found _ _ _ _ c.index_at-i.ensures.value c.if-i-v.true

pub returns-else-i-v : goal.returns-else-i-v
returns-else-i-v c = none _ _ _ _ c.index_at-i.ensures.value c.if-i-v.false
