use mathlib.Core.Path.{◌∙◌}
use Rattle.lending.specs.Entered.{cleared-is}
use Rattle.lending.proofs.clearing.clear_room.Goals as goal

pub returns-clause-does : goal.returns-clause-does
returns-clause-does c = c.clear.ensures.does ∙ cleared-is _ c.long.ensures
