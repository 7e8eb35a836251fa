use Rattle.sparse.specs.Tables.{held, lent}
use Rattle.sparse.specs.Refusals.{number-some}
use Rattle.refusals.specs.Goes.{tabled}
use Rattle.solver.specs.Begin.{counts-at-start, numbers-at-start}
use Rattle.solver.specs.EditRemoving.{remove-edit-by-test}
use Rattle.solver.proofs.remove_edit.remove_edit.Goals as goal

pub remove_edit_tests-requires : goal.remove_edit_tests-requires
remove_edit_tests-requires c =
    let t = lent c.args.tables.now in
    let w = held c.args.room.now in
    record { tabled = tabled t c.requires.reads; words_bound = (counts-at-start t w c.requires).edits; ascends = numbers-at-start t w c.requires }

pub returns-in-Err-clause-does : goal.returns-in-Err-clause-does
returns-in-Err-clause-does c = remove-edit-by-test c.args.n c.args.budget (lent c.args.tables.now) (held c.args.room.now) (held c.args.room.now) c.refused_by_test.result c.requires c.in-Err.ensures (number-some c.in-Err.why) c.refused_by_test.ensures
