use Rattle.sparse.specs.Tables.{held, lent}
use Rattle.std.specs.Float.{nan}
use Rattle.lending.specs.sparse_copy.Over.{all-over}
use Rattle.lending.proofs.sparse_copy.put_over.Goals as goal

pub returns-clause-does : goal.returns-clause-does
returns-clause-does c = all-over (lent c.args.from.now) (held c.args.tables.now) c.requires.m_value c.put_words.ensures (c.part.ensures 0) (c.part-2.ensures nan) c.put_names.ensures c.put_records.ensures c.put_reals.ensures
