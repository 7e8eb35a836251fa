use Prim.Native.Nat.{ℕ, ◌+◌, ◌≤◌, ◌<◌}
use mathlib.Core.Path.{◌≡◌, refl, ◌∙◌}
use mathlib.Core.List.{List}
use lib.Ieee.{Float}
use lib.ListN.{get_or}
use borrow.Author.Tests.{lt-ltb, le-ltb}
use Rattle.steps.specs.Number.{zero64}
use Rattle.sparse.specs.Places.{variable_numbers_at, variable_places_at}
use Rattle.sparse.specs.Lookup.{place_from}
use Rattle.sparse_test.specs.Asked.{constant_of, value_in}
use Rattle.sparse_test.proofs.asking.value_in.Goals as goal

module _ (w b : List ℕ) (f : List Float) (v r n : ℕ) where
  found : {i : ℕ} {x : Float} → i ≡ place_from w variable_numbers_at v n → i < v → x ≡ constant_of b f r (get_or b (variable_places_at + i) 0) → x ≡ value_in w b f v r n
  unfolding value_in
  found {i} e h q = q ∙ rw (← e, lt-ltb i v h) refl

  none : {i : ℕ} → i ≡ place_from w variable_numbers_at v n → v ≤ i → zero64 ≡ value_in w b f v r n
  unfolding value_in
  none {i} e h = rw (← e, le-ltb i v h) refl

pub returns-then-i-v : goal.returns-then-i-v
returns-then-i-v c = found _ _ _ _ _ _ c.look_up-i.ensures.value c.if-i-v.true c.constant_of.ensures

pub returns-else-i-v : goal.returns-else-i-v
unfolding zero64
returns-else-i-v c = none _ c.args.bytes.now c.args.reals.now _ c.args.r _ c.look_up-i.ensures.value c.if-i-v.false
