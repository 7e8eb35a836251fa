use Prim.Native.Nat.{ℕ, ◌+◌, ◌≤◌, ◌<◌}
use mathlib.Core.Path.{◌≡◌, refl, ap, ◌∙◌}
use mathlib.Core.Bool.{false}
use mathlib.Core.List.{List}
use lib.Dec.{ltb}
use lib.ListN.{get_or}
use borrow.Author.Tests.{lt-ltb, le-ltb}
use Rattle.sparse.specs.Places.{variable_numbers_at, variable_places_at, edit_variables_at}
use Rattle.sparse.specs.Lookup.{place_from}
use Rattle.sparse_test.specs.Asked.{edit_in}
use Rattle.sparse_test.proofs.asking.edit_in.Goals as goal

module _ (w b : List ℕ) (v e n : ℕ) where
  found : {i j : ℕ} → i ≡ place_from w variable_numbers_at v n → i < v → j ≡ place_from b edit_variables_at e (get_or b (variable_places_at + i) 0) → ltb j e ≡ edit_in w b v e n
  unfolding edit_in
  found {i} q h r = ap (λ (j : ℕ). ltb j e) r ∙ rw (← q, lt-ltb i v h) refl

  none : {i : ℕ} → i ≡ place_from w variable_numbers_at v n → v ≤ i → false ≡ edit_in w b v e n
  unfolding edit_in
  none {i} q h = rw (← q, le-ltb i v h) refl

pub returns-then-i-v : goal.returns-then-i-v
returns-then-i-v c = found _ _ _ _ _ c.look_up-i.ensures.value c.if-i-v.true c.byte_from.ensures.value

pub returns-else-i-v : goal.returns-else-i-v
returns-else-i-v c = none _ c.args.bytes.now _ c.args.e _ c.look_up-i.ensures.value c.if-i-v.false
