use Rattle.sparse.specs.Tables.{held, lent}
use native.Mathlib.Omega.{arith}
use Rattle.solver.specs.Brings.{stores_both, suggestion-comes}
use Rattle.solver.proofs.bringing.with_suggestion.Goals as goal

pub keep_records-requires : goal.keep_records-requires
keep_records-requires c = let b = stores_both (lent c.args.tables.now) (held c.args.room.now) c.requires.comes in
    record { stores = b.0; stores_2 = b.1 }

pub set_suggestion-requires : goal.set_suggestion-requires
set_suggestion-requires c = let b = (stores_both (lent c.args.tables.now) (held c.args.room.now) c.requires.comes).0.edits in omega (arith, c.requires.j_bound, b)

pub returns-clause-does : goal.returns-clause-does
returns-clause-does c = suggestion-comes (lent c.args.tables.now) (held c.args.room.now) c.requires.comes c.keep_records.new.words c.keep_records.new.bytes c.keep_records.new.reals c.keep_records.result c.args.j c.args.new c.requires.j_bound c.requires.wvalues_value c.keep_records.ensures c.set_suggestion.ensures
