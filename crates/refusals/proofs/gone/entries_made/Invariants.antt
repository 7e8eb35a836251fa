use Prim.Native.Nat.{◌≤◌}
use mathlib.Core.Path.{◌≡◌}
use Rattle.laws.specs.Lists.{sum_on}
use Rattle.layout.specs.Layout.{bit_of}
use Rattle.refusals.specs.Refusals.{entry_at, entries_in}
use Rattle.refusals.proofs.gone.entries_made.Given as goal

abbrev pub invariant-loop-i : goal.invariant-loop-i
invariant-loop-i l = (sum_on (λ j. bit_of (entry_at l.words l.bytes l.reals l.x j)) l.i l.v l.s ≡ entries_in l.words l.bytes l.reals l.x) × (l.s ≤ l.i)
