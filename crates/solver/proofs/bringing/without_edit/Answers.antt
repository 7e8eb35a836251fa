use Rattle.sparse.specs.Tables.{held, lent}
use Rattle.solver.specs.Brings.{stores_both, edit-behind}
use Rattle.solver.proofs.bringing.without_edit.Goals as goal

pub drop_edit-requires : goal.drop_edit-requires
drop_edit-requires c = let b = stores_both (lent c.args.tables.now) (held c.args.room.now) c.requires.comes in
    record { stores = b.0; stores_2 = b.1; j_bound = c.requires.j_bound }

pub returns-clause-does : goal.returns-clause-does
returns-clause-does c = edit-behind (lent c.args.tables.now) (held c.args.room.now) c.requires.comes c.drop_edit.new.words c.drop_edit.new.bytes c.drop_edit.new.reals c.drop_edit.result c.args.j c.requires.j_bound c.requires.wvalues_value c.drop_edit.ensures
