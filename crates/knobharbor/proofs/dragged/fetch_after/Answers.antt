use Rattle.std.proofs.Common.{rules, sym, refl, ◌∙◌}
use Rattle.laws.specs.Given.{then-given}
use Rattle.sparse.specs.Tables.{held}
use Rattle.fetches.specs.Done.{fetch-accepted}
use Rattle.knobharbor.proofs.dragged.fetch_after.Goals as goal

pub returns-then-not-known : goal.returns-then-not-known
returns-then-not-known c = record { does = c.fetch_changes.ensures; same = search rules }

pub fetch_held-count-requires : goal.fetch_held-count-requires
fetch_held-count-requires c = then-given _ c.if-not-known.false c.requires

pub returns : goal.returns
returns c = record { does = c.fetch_held-count.ensures ∙ fetch-accepted (held c.args.tables.now) (sym (then-given _ c.if-not-known.false c.requires)) refl; same = search rules }
