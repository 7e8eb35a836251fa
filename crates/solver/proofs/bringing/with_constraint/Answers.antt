use Rattle.sparse.specs.Tables.{held, lent}
use Rattle.steps.specs.State.{comparison_of}
use Rattle.changes.specs.tags.Tags.{relation_of}
use Rattle.solver.specs.Brings.{stores_both, room-terms, constraint-comes}
use Rattle.solver.proofs.bringing.with_constraint.Goals as goal

pub keep_constraint-requires : goal.keep_constraint-requires
keep_constraint-requires c = let b = stores_both (lent c.args.tables.now) (held c.args.room.now) c.requires.comes in let q = room-terms (lent c.args.tables.now) (held c.args.room.now) c.requires.comes c.requires.values_bound c.args.p c.requires.count_le_term_room in
    record { stores = b.0; stores_2 = b.1; count_le_term_room = c.requires.count_le_term_room; constraint_count_at_bound = q.0; count_bound = q.1 }

pub returns-clause-does : goal.returns-clause-does
returns-clause-does c = constraint-comes (lent c.args.tables.now) (held c.args.room.now) c.requires.comes c.keep_constraint.new.words c.keep_constraint.new.bytes c.keep_constraint.new.reals c.keep_constraint.result c.args.n c.args.g c.args.marker c.args.other (comparison_of (relation_of c.args.relation)) c.args.strength c.args.constant c.args.p c.requires.le_marker c.requires.marker_bound c.requires.other_bound c.requires.values_bound c.requires.count_le_term_room c.requires.wvalues_value c.kind_of-kind.ensures c.keep_constraint.ensures
