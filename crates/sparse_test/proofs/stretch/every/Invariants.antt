use Prim.Native.Nat.{ℕ, ◌≤◌, ◌<◌}
use mathlib.Core.Path.{◌≡◌}
use mathlib.Core.Bool.{Bool}
use Rattle.laws.specs.Lists.{sum_in, sum_on}
use Rattle.sparse_test.specs.Stretch.{missed}
use Rattle.sparse_test.proofs.stretch.every.Given as goal

abbrev pub invariant-loop-i : goal.invariant-loop-i
invariant-loop-i g l = ((p : ℕ → Bool) → ((i : ℕ) (b : Bool) → l.a ≤ i → i < l.e → goal.F-post g l.test i b → b ≡ p i) → sum_on (λ j. missed (p j)) l.i l.e l.misses ≡ sum_in (λ j. missed (p j)) l.a l.e) × (l.misses ≤ l.i)
