use Rattle.sparse_test.specs.Open.{CodedTo}
use Rattle.sparse_test.proofs.owners.fill_codes.Given as goal

abbrev pub invariant-loop-i : goal.invariant-loop-i
invariant-loop-i l = CodedTo l.table l.bytes l.i
