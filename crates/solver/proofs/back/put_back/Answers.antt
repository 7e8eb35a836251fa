use Rattle.sparse.specs.Tables.{held}
use Rattle.std.specs.Float.{nan}
use Rattle.solver.specs.Backed.{tables-back}
use Rattle.solver.proofs.back.put_back.Goals as goal

pub put_bytes-requires : goal.put_bytes-requires
put_bytes-requires c = record { r_le_most_rows = c.requires.counts.rows; v_le_most_variables = c.requires.counts.variables }

pub put_reals-requires : goal.put_reals-requires
put_reals-requires c = record { k_le_last_place = c.requires.counts.symbols; r_le_most_rows = c.requires.counts.rows; j_lt_most_constraints = c.requires.j_lt_most_constraints }

pub returns-clause-does : goal.returns-clause-does
returns-clause-does c = tables-back c.args.wrote (held c.args.room.now) (held c.args.tables.now) c.args.j c.args.new c.put_words.ensures (c.part.ensures 0) (c.part-2.ensures nan) c.put_bytes.ensures c.put_reals.ensures
