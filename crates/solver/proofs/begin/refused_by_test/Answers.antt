-- No refusal's number is above 27.
use Rattle.std.specs.Prelude.{◌≤◌}
use Rattle.std.proofs.Common.{arith}
use Rattle.sparse.specs.Refusals.{refusal_number}
use Rattle.sparse.specs.declared.refusal.Refusal.{Refusal}
use Rattle.solver.proofs.begin.refused_by_test.Goals as goal

number-low : (e : Refusal) → refusal_number e ≤ 27
number-low e = grind arith

pub by_test-requires : goal.by_test-requires
by_test-requires c = rw c.number.ensures (number-low c.args.why)
