use Rattle.sparse.specs.Tables.{lent}
use mathlib.Core.Path.{sym, ◌∙◌}
use Rattle.steps.specs.Number.{zero64}
use Rattle.steps.specs.Changes.{value}
use Rattle.sparse_test.specs.Asked.{not-asked, answered}
use Rattle.sparse_test.proofs.asking.get_value.Goals as goal

pub returns-then-not-reads_as_state : goal.returns-then-not-reads_as_state
unfolding zero64
returns-then-not-reads_as_state c = not-asked (lent c.args.tables.now) c.reads_as_state.ensures (value c.args.n) zero64 c.if-not-reads_as_state.true

pub get_value_held-requires : goal.get_value_held-requires
get_value_held-requires c = sym c.reads_as_state.ensures ∙ c.if-not-reads_as_state.false

pub returns : goal.returns
returns c = c.get_value_held.ensures ∙ answered (lent c.args.tables.now) c.reads_as_state.ensures (value c.args.n) zero64 c.if-not-reads_as_state.false
