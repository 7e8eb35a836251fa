use Rattle.sparse.specs.Tables.{held}
use mathlib.Core.Path.{ap}
use Rattle.std.proofs.Common.{◌∙◌}
use Rattle.lending.specs.Reset.{refused24, reset-done, reset-not}
use Rattle.lending.proofs.reset.Goals as goal

pub returns-then-not-cutoff_fits-clause-does : goal.returns-then-not-cutoff_fits-clause-does
returns-then-not-cutoff_fits-clause-does c = reset-not c.args.cutoff (held c.args.tables.now) c.cutoff_fits.ensures c.if-not-cutoff_fits.true (c.refuse24.ensures ∙ ap refused24 c.lend.ensures)

pub returns-clause-does : goal.returns-clause-does
returns-clause-does c = reset-done c.args.cutoff (held c.args.tables.now) c.cutoff_fits.ensures c.if-not-cutoff_fits.false c.reset_words.ensures
