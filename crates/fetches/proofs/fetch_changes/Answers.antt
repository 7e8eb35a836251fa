use mathlib.Core.Path.{sym, ◌∙◌}
use Rattle.sparse_test.specs.Whole.{tables}
use Rattle.fetches.specs.Done.{fetch-refused, fetch-accepted}
use Rattle.fetches.proofs.fetch_changes.Goals as goal

pub returns-then-not-reads_as_state : goal.returns-then-not-reads_as_state
returns-then-not-reads_as_state c = fetch-refused (tables c.args.words.now c.args.keys.now c.args.bytes.now c.args.reals.now c.args.values.now) c.reads_as_state.ensures c.if-not-reads_as_state.true c.clear_lists.ensures.numbers_after c.clear_lists.ensures.moved_after c.clear_lists.ensures.gone_after

pub fetch_held-count-requires : goal.fetch_held-count-requires
fetch_held-count-requires c = sym c.reads_as_state.ensures ∙ c.if-not-reads_as_state.false

pub returns : goal.returns
returns c = c.fetch_held-count.ensures ∙ fetch-accepted (tables c.args.words.now c.args.keys.now c.args.bytes.now c.args.reals.now c.args.values.now) c.reads_as_state.ensures c.if-not-reads_as_state.false
