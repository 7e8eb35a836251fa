use Rattle.sparse.specs.Tables.{held, lent}
use native.Mathlib.Omega.{arith}
use Rattle.solver.specs.Brings.{stores_both, edit-comes}
use Rattle.solver.proofs.bringing.with_edit.Goals as goal

pub keep_edit-requires : goal.keep_edit-requires
keep_edit-requires c = let b = stores_both (lent c.args.tables.now) (held c.args.room.now) c.requires.comes in
    record { stores = b.0; stores_2 = b.1; edit_count_at_bound = omega (arith, c.requires.values_bound) }

pub returns-clause-does : goal.returns-clause-does
returns-clause-does c = edit-comes (lent c.args.tables.now) (held c.args.room.now) c.requires.comes c.keep_edit.new.words c.keep_edit.new.bytes c.keep_edit.new.reals c.keep_edit.result c.args.n c.args.marker c.args.other c.args.strength c.requires.le_marker c.requires.marker_bound c.requires.other_bound c.requires.values_bound c.requires.wvalues_value c.keep_edit.ensures
