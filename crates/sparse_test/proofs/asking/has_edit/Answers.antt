use Rattle.sparse.specs.Tables.{lent}
use mathlib.Core.Path.{sym, ◌∙◌}
use mathlib.Core.Bool.{false}
use Rattle.steps.specs.Tests.{has_edit}
use Rattle.sparse_test.specs.Asked.{not-asked, answered}
use Rattle.sparse_test.proofs.asking.has_edit.Goals as goal

pub returns-then-not-reads_as_state : goal.returns-then-not-reads_as_state
returns-then-not-reads_as_state c = not-asked (lent c.args.tables.now) c.reads_as_state.ensures (has_edit c.args.n) false c.if-not-reads_as_state.true

pub has_edit_held-requires : goal.has_edit_held-requires
has_edit_held-requires c = sym c.reads_as_state.ensures ∙ c.if-not-reads_as_state.false

pub returns : goal.returns
returns c = c.has_edit_held.ensures ∙ answered (lent c.args.tables.now) c.reads_as_state.ensures (has_edit c.args.n) false c.if-not-reads_as_state.false
