use Rattle.sparse_test.specs.Index.{IndexedFrom}
use Rattle.sparse_test.proofs.uses.fill_index.Given as goal

abbrev pub invariant-loop-i : goal.invariant-loop-i
invariant-loop-i l = IndexedFrom l.index l.bytes l.v l.i
