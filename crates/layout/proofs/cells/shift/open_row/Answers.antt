use Rattle.layout.specs.cells.Cells.{row_after, opened}
use Rattle.layout.proofs.cells.shift.open_row.Goals as goal

pub returns : goal.returns
unfolding opened
returns c = rw (c.each_key.ensures row_after (λ x y h. h), c.find-a.ensures.value)
