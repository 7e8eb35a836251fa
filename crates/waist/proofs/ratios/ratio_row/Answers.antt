use mathlib.Core.Path.{refl, ap, ◌∙◌}
use native.Mathlib.Omega.{arith}
use Rattle.laws.specs.Loops.{run-next, run-last}
use Rattle.rows.specs.choose.Choose.{found_of}
use Rattle.waist.specs.substituting.Held.{held-room}
use Rattle.waist.specs.Working.{lines-few}
use Rattle.waist.specs.Ratios.{ratio_row_of, ratio-turn}
use Rattle.waist.specs.KindsRead.{external-read}
use Rattle.waist.proofs.ratios.ratio_row.Goals as goal

pub loop-i-init : goal.loop-i-init
loop-i-init c = refl

pub spot_cell-x-requires : goal.spot_cell-x-requires
spot_cell-x-requires c =
    let f = held-room _ _ _ _ c.requires.sound.held (lines-few _ _ c.requires.sound) in
    record { n_le_cell_room = omega (arith, f); i_lt_lines_room = omega (arith, c.requires.sound.few, c.loop-i-test.true); ascending = c.requires.sound.held.up; spots = c.spots_of-spots.ensures }

pub loop-i-preserved : goal.loop-i-preserved
loop-i-preserved c = run-next _ _ _ _ (omega arith) (ratio-turn _ _ _ _ _ refl c.spot_cell-x.ensures (rw (← external-read _ _ (rw c.kind_at.ensures at c.from-kind.ensures)) c.row_better-b.ensures)) c.loop-i.invariant

pub returns : goal.returns
unfolding ratio_row_of
returns c = record { value = c.found_of.ensures.value ∙ ap (found_of _) (run-last _ _ _ _ (omega arith) c.loop-i.invariant); within = c.found_of.ensures.within }
