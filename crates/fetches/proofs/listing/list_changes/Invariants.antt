use Prim.Native.Nat.{◌+◌, ◌≤◌}
use mathlib.Core.Path.{◌≡◌}
use lib.ListN.{get_or}
use Rattle.laws.specs.Loops.{run}
use Rattle.sparse.specs.Places.{gone_count_at}
use Rattle.fetches.specs.Listing.{listing, entries, SameLists, list_news}
use Rattle.fetches.proofs.listing.list_changes.Given as goal

abbrev pub invariant-loop-i : goal.invariant-loop-i
invariant-loop-i l =
    (run (list_news l.words l.bytes (get_or l.words gone_count_at 0)) l.i l.k (listing l.reals (entries l.out) l.told) ≡ run (list_news l.words l.bytes (get_or l.words gone_count_at 0)) 0 l.k (listing l.initial.reals (entries l.initial.out) 0)) × (l.told ≤ get_or l.words gone_count_at 0) × (l.out.count ≤ l.i + l.told) × SameLists l.initial.out l.out
