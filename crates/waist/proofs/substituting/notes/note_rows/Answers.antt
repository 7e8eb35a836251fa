use mathlib.Core.Path.{refl, ap, ◌∙◌}
use native.Mathlib.Omega.{arith}
use lib.ListN.{get_or}
use Rattle.laws.specs.Loops.{run-next, run-last}
use Rattle.sparse.specs.Places.{variable_count_at}
use Rattle.waist.specs.substituting.Held.{held-room}
use Rattle.waist.specs.substituting.Notes.{Noted, note_rows, note-turn, noted-count}
use Rattle.waist.specs.KindsRead.{external-read}
use Rattle.waist.proofs.substituting.notes.note_rows.Goals as goal

pub loop-i-init : goal.loop-i-init
unfolding note_rows
loop-i-init c = (refl, c.requires.variable_count_at_bound)

pub spot_cell-k-requires : goal.spot_cell-k-requires
spot_cell-k-requires c =
    let f = held-room _ _ _ _ c.requires.held c.requires.lines_le_most_rows in
    record { n_le_cell_room = omega (arith, f); i_lt_lines_room = omega (arith, c.loop-i-test.true, c.requires.count_le_most_rows); ascending = c.requires.held.up; spots = c.requires.spots }

pub var_changed_if-requires : goal.var_changed_if-requires
var_changed_if-requires c = c.loop-i.invariant.1

pub loop-i-preserved : goal.loop-i-preserved
loop-i-preserved c =
    let e = ap (λ (s : Noted). get_or s.words variable_count_at 0) c.var_changed_if.ensures ∙ noted-count _ _ _ in
    (run-next _ _ _ _ (omega (arith, c.loop-i-test.true)) (note-turn _ _ _ _ _ _ _ _ c.spot_cell-k.ensures refl (rw (← external-read _ _ (rw c.kind_at.ensures at c.from.ensures)) c.is_noted-on.ensures) c.var_changed_if.ensures) c.loop-i.invariant.0, omega (arith, e, c.loop-i.invariant.1))

pub returns : goal.returns
returns c = run-last _ _ _ _ (omega (arith, c.loop-i-test.false)) c.loop-i.invariant.0
