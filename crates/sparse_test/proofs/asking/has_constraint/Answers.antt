use Rattle.sparse.specs.Tables.{lent}
use mathlib.Core.Path.{sym, ◌∙◌}
use mathlib.Core.Bool.{false}
use Rattle.steps.specs.Tests.{has_constraint}
use Rattle.sparse_test.specs.Asked.{not-asked, answered}
use Rattle.sparse_test.proofs.asking.has_constraint.Goals as goal

pub returns-then-not-reads_as_state : goal.returns-then-not-reads_as_state
returns-then-not-reads_as_state c = not-asked (lent c.args.tables.now) c.reads_as_state.ensures (has_constraint c.args.n) false c.if-not-reads_as_state.true

pub has_constraint_held-requires : goal.has_constraint_held-requires
has_constraint_held-requires c = sym c.reads_as_state.ensures ∙ c.if-not-reads_as_state.false

pub returns : goal.returns
returns c = c.has_constraint_held.ensures ∙ answered (lent c.args.tables.now) c.reads_as_state.ensures (has_constraint c.args.n) false c.if-not-reads_as_state.false
