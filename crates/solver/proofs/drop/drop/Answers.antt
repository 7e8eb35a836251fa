use Rattle.sparse.specs.Tables.{held, lent}
use mathlib.Core.Path.{sym}
use Rattle.sparse.specs.Refusals.{number-some}
use Rattle.refusals.specs.Goes.{tabled}
use Rattle.refusals.specs.Groups.{drop-passes}
use Rattle.solver.specs.Dropped.{drop-by-test, drop-done}
use Rattle.solver.proofs.drop.drop.Goals as goal

pub drop_tests-requires : goal.drop_tests-requires
drop_tests-requires c = tabled (lent c.args.tables.now) c.requires.reads

pub returns-in-Err-clause-does : goal.returns-in-Err-clause-does
returns-in-Err-clause-does c = drop-by-test c.args.g c.args.budget (lent c.args.tables.now) (held c.args.room.now) c.refused_by_test.result c.requires.reads c.in-Err.ensures (number-some c.in-Err.why) c.refused_by_test.ensures

pub drop_all-requires-clause-values_value_2 : goal.drop_all-requires-clause-values_value_2
drop_all-requires-clause-values_value_2 c = rw c.bring_all.ensures.wvalues_value (drop-passes (lent c.args.tables.now) c.args.g c.requires.reads (sym c.in_default.ensures))

pub returns-clause-does : goal.returns-clause-does
returns-clause-does c =
    let t = lent c.args.tables.now in
    drop-done c.args.g c.args.budget t (held c.bring_all.new.room) (held c.drop_all.new.room) c.drop_all.result c.bring_all.ensures.wvalues_value
    (drop-passes t c.args.g c.requires.reads (sym c.in_default.ensures)) c.drop_all.ensures.does
