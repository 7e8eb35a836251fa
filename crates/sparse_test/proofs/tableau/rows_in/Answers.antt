use Rattle.sparse_test.specs.Cells.{no_rows, rows-ends}
use Rattle.sparse_test.proofs.tableau.rows_in.Goals as goal

pub returns-then-n-eq0 : goal.returns-then-n-eq0
returns-then-n-eq0 c = no_rows _ _ _ c.if-n-eq0.true

pub returns : goal.returns
returns c = rows-ends _ _ _ c.requires.n_value c.if-n-eq0.false
