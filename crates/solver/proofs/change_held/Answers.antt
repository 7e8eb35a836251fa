use Rattle.sparse.specs.Tables.{held, lent}
use Rattle.std.proofs.Common.{rules}
use Rattle.changes.specs.Change.{changing_of}
use Rattle.solver.specs.Again.{made_again}
use Rattle.solver.proofs.change_held.Goals as goal

pub enter_held-requires : goal.enter_held-requires
enter_held-requires c = c.requires

pub change_in-a-requires : goal.change_in-a-requires
change_in-a-requires c = c.enter_held.ensures.does

pub returns : goal.returns
returns c =
    let t = lent c.args.tables.now in
    let u = held c.change_in-a.new.room in
    record { done = c.change_in-a.ensures.does; then = made_again (changing_of c.args.c c.args.p c.args.budget) t u c.change_in-a.result c.are_typed.ensures c.requires c.long.ensures c.change_in-a.ensures.does; same = search rules }
