use Prim.Native.Nat.{ℕ, ◌≤◌, ◌<◌}
use mathlib.Core.Path.{◌≡◌}
use mathlib.Core.Bool.{Bool}
use Rattle.laws.specs.Lists.{all_in, all_on}
use Rattle.sparse_test.proofs.stretch.each.Given as goal

abbrev pub invariant-loop-i : goal.invariant-loop-i
invariant-loop-i g l = (p : ℕ → Bool) → ((i : ℕ) (b : Bool) → l.a ≤ i → i < l.e → goal.F-post g l.test i b → b ≡ p i) → all_on p l.i l.e l.ok ≡ all_in p l.a l.e
