use Rattle.std.proofs.Common.{refl, arith, length-set}
use lib.Ieee.{nan}
use Rattle.laws.specs.Loops.{fold-last, fold-next-set, map_last, map_next}
use Rattle.rows.specs.Marks.{mark-clean}
use Rattle.rows.specs.Table.{scale_cells_in, scale_cells_mark}
use Rattle.rows.proofs.row.scale_cells.Goals as goal

pub loop-i-init : goal.loop-i-init
loop-i-init c = (refl, refl, omega arith)

pub loop-i-preserved : goal.loop-i-preserved
loop-i-preserved c = (
  rw c.scale_at-w.ensures.row_after (map_next _ _ _ _ nan (omega arith) refl c.loop-i.invariant.0),
  rw c.scale_at-w.ensures.row_after (fold-next-set _ _ _ _ _ nan _ (omega arith) (omega arith) c.scale_at-w.ensures.result_value c.loop-i.invariant.1),
  rw c.scale_at-w.ensures.row_after (simp length-set (omega arith)),
)

pub returns : goal.returns
unfolding scale_cells_in scale_cells_mark
returns c = record { result_value = rw (← mark-clean, ← c.nothing-w.ensures) (fold-last _ _ _ _ _ (omega arith) c.loop-i.invariant.1); row_after = map_last _ _ _ _ (omega arith) c.loop-i.invariant.0 }
