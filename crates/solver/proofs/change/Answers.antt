use Rattle.sparse.specs.Tables.{held}
use Rattle.std.proofs.Common.{rules}
use Rattle.lending.specs.Lending.{answer_of}
use Rattle.solver.specs.Change.{known-called}
use Rattle.solver.proofs.change.Goals as goal

pub returns-in-Suggest : goal.returns-in-Suggest
returns-in-Suggest c = record { values_value = known-called c.args.c c.args.p c.args.budget (held c.args.room.now) (held c.args.tables.now) (held c.suggest_tested.new.tables) (answer_of c.suggest_tested.result) c.in-Suggest.is c.suggest_tested.ensures.values_value; wvalues_value = c.suggest_tested.ensures.wvalues_value; same_tables = search rules; same_room = search rules }

pub returns-in_default : goal.returns-in_default
returns-in_default c = record { values_value = c.change_whole.ensures.values_value; wvalues_value = c.change_whole.ensures.wvalues_value; same_tables = search rules; same_room = search rules }
