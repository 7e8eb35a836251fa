use Rattle.sparse.specs.Tables.{held}
use Rattle.std.proofs.Common.{rules}
use mathlib.Core.Path.{ap, subst}
use Rattle.std.proofs.Common.{◌∙◌}
use Rattle.laws.specs.Given.{Then}
use Rattle.sparse_test.specs.Reads.{reads}
use Rattle.lending.specs.Entered.{Entered}
use Rattle.steps.specs.Calls.{suggest}
use Rattle.lending.specs.Lending.{answer_of}
use Rattle.solver.specs.BackCalls.{tested-in}
use Rattle.solver.proofs.back.suggest_tested.Goals as goal

pub suggest_if-a-requires : goal.suggest_if-a-requires
suggest_if-a-requires c = subst (λ t. Then c.enter-ok.result (Entered t (held c.enter-ok.new.room))) c.lend.ensures c.enter-ok.ensures.then

pub returns : goal.returns
returns c = let all = tested-in (suggest c.args.n c.args.new c.args.budget) (held c.args.tables.now) (held c.args.room.now) (held c.suggest_if-a.new.tables) (answer_of c.suggest_if-a.result) c.enter-ok.ensures.lengths (c.enter-ok.ensures.value ∙ ap reads c.lend.ensures) c.suggest_if-a.ensures.does c.clear.ensures.does in record { values_value = all.0; wvalues_value = all.1; same_tables = search rules; same_room = search rules }
