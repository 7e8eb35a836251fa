use Rattle.sparse.specs.Tables.{held, lent}
use Rattle.steps.specs.Changing.{made}
use Rattle.changes.specs.Change.{changing_of}
use Rattle.solver.specs.Concluding.{entered-if, if-not, if-done}
use Rattle.solver.proofs.change_if.Goals as goal

pub returns-then-not-ok-clause-does : goal.returns-then-not-ok-clause-does
returns-then-not-ok-clause-does c = if-not (made (changing_of c.args.c c.args.p c.args.budget)) c.refuse18.result (lent c.args.tables.now) (held c.args.room.now) c.args.ok c.if-not-ok.true c.refuse18.ensures

pub change_in-requires : goal.change_in-requires
change_in-requires c = entered-if (lent c.args.tables.now) (held c.args.room.now) c.args.ok c.if-not-ok.false c.requires

pub returns-clause-does : goal.returns-clause-does
returns-clause-does c = if-done (made (changing_of c.args.c c.args.p c.args.budget)) c.change_in.result (lent c.args.tables.now) (held c.change_in.new.room) c.args.ok c.if-not-ok.false c.change_in.ensures.does
