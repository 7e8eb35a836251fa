use mathlib.Core.Path.{refl, sym, ◌∙◌}
use native.Mathlib.Omega.{arith}
use Rattle.laws.specs.Loops.{first_next, first-here, first-last}
use Rattle.waist.specs.MarkerRow.{dummy_row_of, dummy-held}
use Rattle.waist.specs.KindsRead.{dummy-read}
use Rattle.waist.proofs.marker.first_dummy_row.Goals as goal

pub loop-i-init : goal.loop-i-init
unfolding dummy_row_of
loop-i-init c = refl

pub column_at-x-requires : goal.column_at-x-requires
column_at-x-requires c = record { sound = c.requires.sound; p_le_last_place = c.requires.p_le_last_place; i_le_most_rows = omega (arith, c.requires.sound.few); spots = c.spots_of-spots.ensures }

pub returns-then-holds_as_dummy : goal.returns-then-holds_as_dummy
returns-then-holds_as_dummy c = record { value = first-here _ _ _ _ _ (omega arith) (sym (dummy-held _ _ _ refl c.column_at-x.ensures (rw (← dummy-read _ _ (rw c.kind_at.ensures at c.from-kind.ensures)) c.holds_as_dummy.ensures)) ∙ c.if-holds_as_dummy.true) c.loop-i.invariant; within = (omega arith, omega arith) }

pub loop-i-preserved : goal.loop-i-preserved
loop-i-preserved c = first_next _ _ _ _ _ (omega arith) (sym (dummy-held _ _ _ refl c.column_at-x.ensures (rw (← dummy-read _ _ (rw c.kind_at.ensures at c.from-kind.ensures)) c.holds_as_dummy.ensures)) ∙ c.if-holds_as_dummy.false) c.loop-i.invariant

pub returns : goal.returns
returns c = record { value = first-last _ _ _ _ _ (omega arith) c.loop-i.invariant; within = tt }
