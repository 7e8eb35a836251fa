use Rattle.std.proofs.Common.{refl, arith, length-set}
use lib.Ieee.{nan}
use Rattle.laws.specs.Loops.{fold2-last, fold2-next-set, zip-last, zip-next}
use Rattle.rows.specs.Marks.{mark-clean}
use Rattle.rows.specs.Table.{insert_cells_in, insert_cells_mark}
use Rattle.rows.proofs.row.insert_cells.Goals as goal

pub loop-i-init : goal.loop-i-init
loop-i-init c = (refl, refl, omega arith)

pub loop-i-preserved : goal.loop-i-preserved
loop-i-preserved c = (
  rw c.insert_at-w.ensures.row_after (zip-next _ _ _ _ _ nan nan (omega arith) (omega arith) refl c.loop-i.invariant.0),
  rw c.insert_at-w.ensures.row_after (fold2-next-set _ _ _ _ _ _ nan _ nan (omega arith) (omega arith) (omega arith) c.insert_at-w.ensures.result_value c.loop-i.invariant.1),
  rw c.insert_at-w.ensures.row_after (simp length-set (omega arith)),
)

pub returns : goal.returns
unfolding insert_cells_in insert_cells_mark
returns c = record { result_value = rw (← mark-clean, ← c.nothing-w.ensures) (fold2-last _ _ _ _ _ _ (omega arith) c.loop-i.invariant.1); row_after = zip-last _ _ _ _ _ (omega arith) c.loop-i.invariant.0 }
