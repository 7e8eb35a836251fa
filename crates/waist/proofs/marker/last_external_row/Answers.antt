use Prim.Native.Nat.{◌+◌, ◌-◌}
use mathlib.Core.Path.{◌≡◌, refl, sym, ◌∙◌}
use lib.ListN.{get_or}
use Rattle.sparse.specs.Places.{row_count_at}
use native.Mathlib.Omega.{arith}
use Rattle.rows.specs.choose.Back.{back-next, back-here, back_last}
use Rattle.waist.specs.MarkerRow.{external_row_of, external-held}
use Rattle.waist.specs.KindsRead.{external-read}
use Rattle.waist.proofs.marker.last_external_row.Goals as goal

pub loop-i-init : goal.loop-i-init
unfolding external_row_of
loop-i-init c = let q : get_or c.args.tables.now.words.now row_count_at 0 + 1 - 1 ≡ get_or c.args.tables.now.words.now row_count_at 0 = omega arith in (rw q refl, omega arith)

pub column_at-x-requires : goal.column_at-x-requires
column_at-x-requires c = record { sound = c.requires.sound; p_le_last_place = c.requires.p_le_last_place; i_le_most_rows = omega (arith, c.requires.sound.few); spots = c.spots_of-spots.ensures }

pub returns-then-holds_as_external : goal.returns-then-holds_as_external
returns-then-holds_as_external c = record { value = back-here _ _ _ _ (omega arith) (sym (external-held _ _ _ refl c.column_at-x.ensures (rw (← external-read _ _ (rw c.kind_at.ensures at c.from-kind.ensures)) c.holds_as_external.ensures)) ∙ c.if-holds_as_external.true) c.loop-i.invariant.0; within = (omega arith, omega arith) }

pub loop-i-preserved : goal.loop-i-preserved
loop-i-preserved c = (back-next _ _ _ _ (omega arith) (sym (external-held _ _ _ refl c.column_at-x.ensures (rw (← external-read _ _ (rw c.kind_at.ensures at c.from-kind.ensures)) c.holds_as_external.ensures)) ∙ c.if-holds_as_external.false) c.loop-i.invariant.0, omega arith)

pub returns : goal.returns
returns c = record { value = back_last _ _ _ _ (omega arith) c.loop-i.invariant.0; within = tt }
