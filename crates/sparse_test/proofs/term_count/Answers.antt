use Prim.Native.Nat.{ℕ, ◌+◌, ◌≤◌, ◌<◌}
use mathlib.Core.Path.{◌≡◌, ap}
use mathlib.Core.Bool.{true}
use mathlib.Core.List.{List}
use native.Mathlib.Omega.{arith}
use lib.ListN.{get_or}
use Rattle.laws.specs.Lists.{sum-start, sum-next, sum-last}
use Rattle.layout.specs.Layout.{term_room}
use Rattle.sparse.specs.Places.{term_counts_at}
use Rattle.sparse_test.specs.Stretch.{most_in, most}
use Rattle.sparse_test.specs.Tested.{term_count}
use Rattle.sparse_test.proofs.term_count.Goals as goal

few : (b : List ℕ) (n i : ℕ) {w : ℕ} → most_in b term_counts_at n term_room ≡ true → i < n → w ≡ get_or b (term_counts_at + i) 0 → w ≤ term_room
few b n i h k e = let q = most b term_counts_at n term_room h i k in omega (arith, q, e)

pub loop-i-init : goal.loop-i-init
unfolding term_count
loop-i-init c = (sum-start _ _ _, omega arith, λ h. omega arith)

pub loop-i-preserved : goal.loop-i-preserved
loop-i-preserved c = (sum-next _ _ _ _ (omega arith) (ap (λ (x : ℕ). c.loop-i.m + x) c.from-m.ensures) c.loop-i.invariant.0, let b = c.fits-bytes (term_counts_at + c.loop-i.i) in omega (arith, b, c.from-m.ensures), λ h. let q = few _ _ _ h (omega arith) c.from-m.ensures in let m = c.loop-i.invariant.2 h in omega (arith, q, m))

pub returns : goal.returns
returns c = record { value = sum-last _ _ _ _ (omega arith) c.loop-i.invariant.0; upper_bound = λ h. let m = c.loop-i.invariant.2 h in omega (arith, m) }
