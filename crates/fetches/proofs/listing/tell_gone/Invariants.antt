use Prim.Native.Nat.{◌+◌, ◌-◌}
use mathlib.Core.Path.{◌≡◌}
use Rattle.fetches.specs.Listing.{entries, SameLists}
use Rattle.fetches.specs.Telling.{tell_gone}
use Rattle.fetches.proofs.listing.tell_gone.Given as goal

abbrev pub invariant-loop-j : goal.invariant-loop-j
invariant-loop-j l = (tell_gone l.words l.j l.b (entries l.out) ≡ tell_gone l.words l.a l.b (entries l.initial.out)) × (l.out.count ≡ l.initial.out.count + (l.j - l.a)) × SameLists l.initial.out l.out
