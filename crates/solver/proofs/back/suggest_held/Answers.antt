use Rattle.sparse.specs.Tables.{held}
use Rattle.std.proofs.Common.{rules}
use mathlib.Core.Path.{◌≡◌, sym, subst}
use mathlib.Core.Bool.{true}
use Rattle.sparse_test.specs.Reads.{reads}
use Rattle.lending.specs.Entered.{Entered}
use Rattle.solver.specs.BackCalls.{in-reads}
use Rattle.solver.proofs.back.suggest_held.Goals as goal

pub enter_held-requires : goal.enter_held-requires
enter_held-requires c = subst (λ t. reads t ≡ true) (sym c.lend.ensures) c.requires

pub suggest_back-requires : goal.suggest_back-requires
suggest_back-requires c = subst (λ t. Entered t (held c.enter_held.new.room)) c.lend.ensures c.enter_held.ensures.does

pub returns : goal.returns
returns c = record { values_value = c.suggest_back.ensures.does; values_value_2 = in-reads c.args.n c.args.budget c.args.new (held c.args.tables.now) c.suggest_back.result c.requires (held c.suggest_back.new.tables) c.long.ensures c.suggest_back.ensures.does; same_tables = search rules; same_room = search rules }
