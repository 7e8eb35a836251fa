use Rattle.sparse.specs.Tables.{lent}
use Rattle.lending.specs.Reset.{refused-is}
use Rattle.lending.proofs.refuse24.Goals as goal

pub returns : goal.returns
returns c = rw c.number.ensures (refused-is (lent c.args.tables.now) c.reads_as_state-reads.ensures)
