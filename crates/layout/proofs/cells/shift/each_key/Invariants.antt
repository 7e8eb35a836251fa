use Prim.Native.Nat.{ℕ}
use mathlib.Core.Path.{◌≡◌}
use Rattle.laws.specs.Loops.{map_in}
use Rattle.layout.proofs.cells.shift.each_key.Given as goal

abbrev pub invariant-loop-j : goal.invariant-loop-j
invariant-loop-j g l = goal.F-IsAlwaysCallable g l.f × ((h : ℕ → ℕ) → ((x y : ℕ) → goal.F-post g l.f x y → y ≡ h x) → map_in h l.j l.n l.keys ≡ map_in h l.a l.n l.initial.keys)
