-- The piece's end and what waits to be written stay as they are, and each turn takes a byte.
use Rattle.std.proofs.Common.{◌≡◌, ◌≤◌, ◌-◌}
use Rattle.session.proofs.stream.cut.Given as goal

abbrev pub invariant-loop-q : goal.invariant-loop-q
invariant-loop-q l = (l.q.at ≡ l.initial.q.at) × (l.q.end ≤ 4096)

abbrev pub decreases-loop-q : goal.decreases-loop-q
decreases-loop-q l = l.q.end - l.q.next
