use mathlib.Core.Path.{refl, ap, ◌∙◌}
use native.Mathlib.Omega.{arith}
use lib.ListN.{get_or}
use Rattle.laws.specs.Loops.{run-next, run-last}
use Rattle.sparse.specs.Places.{variable_count_at}
use Rattle.waist.specs.substituting.Notes.{Noted, noted-count}
use Rattle.optimising.specs.suggestion.Shifting.{shift_rows_in, shift-turn}
use Rattle.waist.specs.KindsRead.{external-read}
use Rattle.optimising.proofs.suggestion.shifting.shift_rows.Goals as goal

pub loop-i-init : goal.loop-i-init
loop-i-init c = (refl, refl)

pub shift_of-s-requires : goal.shift_of-s-requires
shift_of-s-requires c = record { n_le_cell_room = omega (arith, c.requires.cell_count_at_bound); i_lt_most_rows = omega (arith, c.requires.row_count_at_bound); ascending = c.requires.ascending; spots = c.spots_for-spots.ensures }

pub loop-i-preserved : goal.loop-i-preserved
loop-i-preserved c = (
  run-next _ _ _ _ (omega arith) (shift-turn _ _ _ _ _ _ _ _ _ c.shift_of-s.ensures refl (rw (← external-read _ _ (rw c.kind_at.ensures at c.from.ensures)) c.is_noted-on.ensures) c.var_changed_if.ensures c.shift_row-w.ensures.result_value c.shift_row-w.ensures.reals_after) c.loop-i.invariant.0,
  ap (λ (z : Noted). get_or z.words variable_count_at 0) c.var_changed_if.ensures ∙ noted-count _ _ _ ∙ c.loop-i.invariant.1,
)

pub returns : goal.returns
unfolding shift_rows_in
returns c = run-last _ _ _ _ (omega arith) c.loop-i.invariant.0
