use Rattle.sparse.specs.Tables.{held}
use Rattle.steps.specs.Calls.{suggest}
use Rattle.lending.specs.Lending.{answer_of}
use Rattle.solver.specs.Concluding.{entered-if}
use Rattle.solver.specs.BackCalls.{if-left, if-in}
use Rattle.solver.proofs.back.suggest_if.Goals as goal

pub returns-then-not-ok-clause-does : goal.returns-then-not-ok-clause-does
returns-then-not-ok-clause-does c = if-left (suggest c.args.n c.args.new c.args.budget) (held c.args.tables.now) c.args.ok c.if-not-ok.true c.refuse18.ensures

pub suggest_back-requires : goal.suggest_back-requires
suggest_back-requires c = entered-if (held c.args.tables.now) (held c.args.room.now) c.args.ok c.if-not-ok.false c.requires

pub returns-clause-does : goal.returns-clause-does
returns-clause-does c = if-in (suggest c.args.n c.args.new c.args.budget) (held c.args.tables.now) (held c.suggest_back.new.tables) c.args.ok (answer_of c.suggest_back.result) c.if-not-ok.false c.suggest_back.ensures.does
