use Rattle.sparse.specs.Tables.{held, lent}
use Rattle.solver.specs.Change.{known-done}
use Rattle.solver.proofs.change_in.Goals as goal

pub add-requires : goal.add-requires
add-requires c = c.requires

pub remove-requires : goal.remove-requires
remove-requires c = c.requires

pub drop-requires : goal.drop-requires
drop-requires c = c.requires

pub add_edit-requires : goal.add_edit-requires
add_edit-requires c = c.requires

pub remove_edit-requires : goal.remove_edit-requires
remove_edit-requires c = c.requires

pub suggest-requires : goal.suggest-requires
suggest-requires c = c.requires

pub returns-in-Add-clause-does : goal.returns-in-Add-clause-does
returns-in-Add-clause-does c = known-done c.args.c c.args.p c.args.budget c.add.result (lent c.args.tables.now) (held c.add.new.room) c.in-Add.is c.add.ensures.does

pub returns-in-Remove-clause-does : goal.returns-in-Remove-clause-does
returns-in-Remove-clause-does c = known-done c.args.c c.args.p c.args.budget c.remove.result (lent c.args.tables.now) (held c.remove.new.room) c.in-Remove.is c.remove.ensures.does

pub returns-in-Drop-clause-does : goal.returns-in-Drop-clause-does
returns-in-Drop-clause-does c = known-done c.args.c c.args.p c.args.budget c.drop.result (lent c.args.tables.now) (held c.drop.new.room) c.in-Drop.is c.drop.ensures.does

pub returns-in-AddEdit-clause-does : goal.returns-in-AddEdit-clause-does
returns-in-AddEdit-clause-does c = known-done c.args.c c.args.p c.args.budget c.add_edit.result (lent c.args.tables.now) (held c.add_edit.new.room) c.in-AddEdit.is c.add_edit.ensures.does

pub returns-in-RemoveEdit-clause-does : goal.returns-in-RemoveEdit-clause-does
returns-in-RemoveEdit-clause-does c = known-done c.args.c c.args.p c.args.budget c.remove_edit.result (lent c.args.tables.now) (held c.remove_edit.new.room) c.in-RemoveEdit.is c.remove_edit.ensures.does

pub returns-in-Suggest-clause-does : goal.returns-in-Suggest-clause-does
returns-in-Suggest-clause-does c = known-done c.args.c c.args.p c.args.budget c.suggest.result (lent c.args.tables.now) (held c.suggest.new.room) c.in-Suggest.is c.suggest.ensures.does
