-- What waits to be written stays within the buffer, and the piece's end within the piece.
use Rattle.std.proofs.Common.{◌≤◌}
use Rattle.session.proofs.main.Given as goal

abbrev pub invariant-loop : goal.invariant-loop
invariant-loop l = (l.p.at ≤ 8192) × (l.p.end ≤ 4096)
