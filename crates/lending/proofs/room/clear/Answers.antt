use Rattle.std.proofs.Common.{rules}
use Rattle.steps.specs.Number.{zero64}
use Rattle.lending.specs.Entered.{zero_is}
use Rattle.lending.proofs.room.clear.Goals as goal

pub returns-clause-does : goal.returns-clause-does
unfolding zero64
returns-clause-does c = search (rules, zero_is)
