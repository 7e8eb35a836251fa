-- The working room is all zero.
use Rattle.std.specs.Float.Ieee.{of_bits}
use Rattle.lending.specs.Entered.{zero_room}
use Rattle.lending.specs.Lending.{call_of}
use Rattle.session.proofs.answers.change.Goals as goal

pub returns-clause-does : goal.returns-clause-does
unfolding zero_room of_bits call_of
returns-clause-does c = c.change.ensures.values_value
