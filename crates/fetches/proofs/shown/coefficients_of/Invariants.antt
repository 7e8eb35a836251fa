use mathlib.Core.Path.{◌≡◌}
use Rattle.steps.specs.Number.{zero64}
use Rattle.fetches.specs.shown.Filled.{filled}
use Rattle.fetches.specs.shown.Stored.{coefficient_at}
use Rattle.fetches.proofs.shown.coefficients_of.Given as goal

abbrev pub invariant-loop-j : goal.invariant-loop-j
invariant-loop-j l = l.r ≡ filled zero64 (coefficient_at l.reals l.from) l.j
