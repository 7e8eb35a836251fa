use Prim.Native.Nat.{ℕ}
use mathlib.Core.Path.{◌≡◌}
use Rattle.fetches.specs.shown.Filled.{filled}
use Rattle.fetches.specs.shown.Stored.{variable_at}
use Rattle.fetches.proofs.shown.variables_of.Given as goal

abbrev pub invariant-loop-j : goal.invariant-loop-j
invariant-loop-j l = l.r ≡ filled {A = ℕ} 0 (variable_at l.words l.bytes l.from) l.j
