use Rattle.sparse.specs.Tables.{lent}
use Rattle.std.proofs.Common.{refl}
use Rattle.lending.specs.sparse_copy.Over.{tables}
use Rattle.entry.specs.typed.Adding.{mark-none, mark-stored}
use Rattle.entry.proofs.typed.add.mark_of.Goals as goal

pub returns-then-not-reads_as_state : goal.returns-then-not-reads_as_state
returns-then-not-reads_as_state c = mark-none (lent c.args.tables.now) c.reads_as_state.ensures c.if-not-reads_as_state.true

pub returns : goal.returns
returns c = mark-stored (lent c.args.tables.now) c.reads_as_state.ensures c.if-not-reads_as_state.false refl
