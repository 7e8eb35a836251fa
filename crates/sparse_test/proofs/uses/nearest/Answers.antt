use Prim.Native.Nat.{ℕ, ◌≤◌, ◌<◌}
use mathlib.Core.Path.{◌≡◌, refl}
use native.Mathlib.Omega.{arith}
use borrow.Author.Tests.{lt-ltb, le-ltb}
use Rattle.sparse_test.specs.Index.{near}
use Rattle.sparse_test.proofs.uses.nearest.Goals as goal

own : (v x : ℕ) → x < v → x ≡ near v x
unfolding near
own v x h = rw (lt-ltb x v h) refl

last : (v x : ℕ) → v ≤ x → v ≡ near v x
unfolding near
last v x h = rw (le-ltb x v h) refl

pub returns-then-x-v : goal.returns-then-x-v
returns-then-x-v c = record { value = own _ _ c.if-x-v.true; upper_bound = omega arith }

pub returns-else-x-v : goal.returns-else-x-v
returns-else-x-v c = record { value = last _ _ c.if-x-v.false; upper_bound = omega arith }
