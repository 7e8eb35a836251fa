use Rattle.std.proofs.Common.{refl}
use Rattle.rows.specs.Marks.{mark-clean}
use Rattle.rows.specs.Table.{substitute_row_changed, substitute_row_in, substitute_row_mark}
use Rattle.steps.specs.Number.{zero64}
use Rattle.steps.specs.Symbol.{absent}
use Rattle.rows.proofs.row.substitute_row.Goals as goal

pub returns-then-k : goal.returns-then-k
unfolding substitute_row_changed substitute_row_mark substitute_row_in absent zero64
returns-then-k c = rw c.if-k.true (record { changed_value = refl; wrote_value = rw c.nothing-w.ensures mark-clean; row_after = refl })

pub returns : goal.returns
unfolding substitute_row_changed substitute_row_mark substitute_row_in absent zero64
returns c = rw c.if-k.false (record { changed_value = c.insert_row.ensures.changed_value; wrote_value = c.insert_row.ensures.wrote_value; row_after = c.insert_row.ensures.row_after })
