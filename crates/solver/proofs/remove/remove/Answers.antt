use Rattle.sparse.specs.Tables.{held, lent}
use Rattle.sparse.specs.Refusals.{number-some}
use Rattle.refusals.specs.Goes.{tabled}
use Rattle.solver.specs.Begin.{constraints-at-start}
use Rattle.solver.specs.Removing.{remove-by-test}
use Rattle.solver.proofs.remove.remove.Goals as goal

pub remove_tests-requires : goal.remove_tests-requires
remove_tests-requires c =
    let t = lent c.args.tables.now in
    let w = held c.args.room.now in
    record { tabled = tabled t c.requires.reads; ascends = constraints-at-start t w c.requires }

pub returns-in-Err-clause-does : goal.returns-in-Err-clause-does
returns-in-Err-clause-does c = remove-by-test c.args.n c.args.budget (lent c.args.tables.now) (held c.args.room.now) (held c.args.room.now) c.refused_by_test.result c.requires c.in-Err.ensures (number-some c.in-Err.why) c.refused_by_test.ensures
