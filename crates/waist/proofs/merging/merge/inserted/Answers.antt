use Rattle.steps.specs.Symbol.{absent}
use Rattle.steps.specs.Number.{zero64}
use Rattle.rows.specs.Marks.{cell_of, insert_times-is}
use Rattle.rows.specs.Table.{there-is}
use Rattle.waist.proofs.merging.merge.inserted.Goals as goal

pub returns-then-o : goal.returns-then-o
unfolding cell_of absent zero64
returns-then-o c = rw (insert_times-is _, c.if-o.true)

pub returns : goal.returns
unfolding absent zero64
returns c = there-is _ _ _ _ c.if-o.false c.insert_cell.ensures
