use Prim.Native.Nat.{ℕ, ◌+◌, ◌≤◌, ◌<◌}
use mathlib.Core.Path.{◌≡◌, ap}
use mathlib.Core.Bool.{true}
use mathlib.Core.List.{List}
use native.Mathlib.Omega.{arith}
use lib.ListN.{get_or}
use Rattle.laws.specs.Lists.{sum-start, sum-next, sum-last}
use Rattle.layout.specs.Layout.{term_room}
use Rattle.sparse.specs.Places.{term_counts_at}
use Rattle.sparse_test.specs.Stretch.{most_in, most}
use Rattle.sparse_test.specs.Tested.{term_count}
use Rattle.fetches.proofs.shown.terms_before.Goals as goal

few : (b : List ℕ) (i j : ℕ) {w : ℕ} → most_in b term_counts_at (i + 1) term_room ≡ true → j < i → w ≡ get_or b (term_counts_at + j) 0 → w ≤ term_room
few b i j h k e = let q = most b term_counts_at (i + 1) term_room h j (omega (arith, k)) in omega (arith, q, e)

pub loop-j-init : goal.loop-j-init
unfolding term_count
loop-j-init c = (sum-start _ _ _, omega arith)

pub overflow_add-m : goal.overflow_add-m
overflow_add-m c = let q = few _ _ _ c.requires.term_room_value (omega arith) c.wide-m.ensures.value in omega (arith, q)

pub loop-j-preserved : goal.loop-j-preserved
loop-j-preserved c =
    let q = few _ _ _ c.requires.term_room_value (omega arith) c.wide-m.ensures.value in
    (sum-next _ _ _ _ (omega arith) (ap (λ (x : ℕ). c.loop-j.m + x) c.wide-m.ensures.value) c.loop-j.invariant.0, omega (arith, q))

pub returns : goal.returns
returns c = record { value = sum-last _ _ _ _ (omega arith) c.loop-j.invariant.0; term_room_bound = omega arith }
