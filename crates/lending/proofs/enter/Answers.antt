use Rattle.std.proofs.Common.{rules}
use mathlib.Core.Path.{sym, ◌∙◌}
use Rattle.lending.proofs.enter.Goals as goal

pub returns-then-not-reads_as_state : goal.returns-then-not-reads_as_state
returns-then-not-reads_as_state c = record { value = sym c.if-not-reads_as_state.true ∙ c.reads_as_state.ensures; then = tt; lengths = c.long.ensures; same = search rules }

pub enter_held-requires : goal.enter_held-requires
enter_held-requires c = sym c.reads_as_state.ensures ∙ c.if-not-reads_as_state.false

pub returns : goal.returns
returns c = record { value = sym c.if-not-reads_as_state.false ∙ c.reads_as_state.ensures; then = c.enter_held.ensures.does; lengths = c.long.ensures; same = search rules }
