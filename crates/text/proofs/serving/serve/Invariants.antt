-- What waits to be written stays within the buffer: the place, whose `at` stands first, is taken apart while a call has it.
use Rattle.std.proofs.Common.{◌≤◌}
use Rattle.text.proofs.serving.serve.Given as goal

abbrev pub invariant-loop : goal.invariant-loop
invariant-loop g l = l.p.0 ≤ 8192
