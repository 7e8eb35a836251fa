use Rattle.sparse.specs.Tables.{held}
use Rattle.std.proofs.Common.{rules}
use mathlib.Core.Bool.{◌&&◌}
use lib.Dec.{eqb}
use mathlib.Core.Path.{sym, ap, subst}
use Rattle.std.proofs.Common.{◌∙◌}
use Rattle.laws.specs.Given.{Then}
use Rattle.sparse_test.specs.Reads.{reads}
use Rattle.lending.specs.Entered.{Entered}
use Rattle.lending.specs.Lending.{left-counts}
use Rattle.changes.specs.Change.{changing_of}
use Rattle.solver.specs.Change.{call-done}
use Rattle.steps.specs.Changing.{made}
use Rattle.solver.specs.Concluding.{DoneIf}
use Rattle.solver.proofs.change_whole.Goals as goal

pub change_if-a-requires : goal.change_if-a-requires
change_if-a-requires c = subst (λ t. Then c.enter-ok.result (Entered t (held c.enter-ok.new.room))) (c.lend.ensures ∙ sym c.lend-2.ensures) c.enter-ok.ensures.then

pub leave-requires : goal.leave-requires
leave-requires c = left-counts (held c.change_if-a.new.room) (c.enter-ok.result && eqb c.change_if-a.result.number 0) (subst (λ t. DoneIf c.enter-ok.result (made (changing_of c.args.c c.args.p c.args.budget)) c.change_if-a.result t (held c.change_if-a.new.room)) c.lend-2.ensures c.change_if-a.ensures.does).2

pub returns : goal.returns
returns c = let all = call-done (changing_of c.args.c c.args.p c.args.budget) (held c.args.tables.now) (held c.args.room.now) (held c.change_if-a.new.room) c.change_if-a.result c.enter-ok.ensures.lengths (c.enter-ok.ensures.value ∙ ap reads c.lend.ensures) (subst (λ t. DoneIf c.enter-ok.result (made (changing_of c.args.c c.args.p c.args.budget)) c.change_if-a.result t (held c.change_if-a.new.room)) c.lend-2.ensures c.change_if-a.ensures.does) c.leave.ensures.values_after c.leave.ensures.wvalues_after in record { values_value = all.0; wvalues_value = all.1; same_tables = search rules; same_room = search rules }
