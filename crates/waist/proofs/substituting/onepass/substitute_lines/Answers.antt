use mathlib.Core.Path.{refl}
use native.Mathlib.Omega.{arith}
use Rattle.rows.specs.Marks.{mark-clean}
use Rattle.waist.specs.substituting.Held.{held-room}
use Rattle.waist.specs.substituting.Lines.{lines}
use Rattle.waist.specs.substituting.Passed.{none-hold, going-ready, going-bounds, going-begin, going_end, Leads, leads-same, leads-merged, leads-over, alike-whole}
use Rattle.waist.proofs.substituting.onepass.substitute_lines.Goals as goal

pub returns-then-count-first : goal.returns-then-count-first
returns-then-count-first c = alike-whole _ _ _ _ _ _ _ _ _ _ _ _ _ (rw c.nothing-w.ensures mark-clean) (none-hold _ _ _ _ _ _ _ _ _ _ c.requires.count_le_most_rows c.requires.spots _ _ _ _ c.first_line-first.ensures c.if-count-first.true c.requires.held)

pub overflow_sub-d : goal.overflow_sub-d
overflow_sub-d c = let r = held-room _ _ _ _ c.requires.held c.requires.count_le_most_rows in omega (arith, r)

pub run_start-b-requires : goal.run_start-b-requires
run_start-b-requires c =
    let r = held-room _ _ _ _ c.requires.held c.requires.count_le_most_rows in
    let h = c.first_line-first.ensures.here (omega (arith, c.if-count-first.false)) in
    record { a_le_c = omega arith; c_le_cell_room = omega (arith, r, h) }

pub slide-requires : goal.slide-requires
slide-requires c =
    let r = held-room _ _ _ _ c.requires.held c.requires.count_le_most_rows in
    let h = c.first_line-first.ensures.here (omega (arith, c.if-count-first.false)) in
    record { a_le_n = omega (arith, h, c.run_start-b.ensures.to); n_le_cell_room = omega (arith, r); a_bound = omega (arith, r, h, c.run_start-b.ensures.to) }

pub overflow_add-s : goal.overflow_add-s
overflow_add-s c =
    let r = held-room _ _ _ _ c.requires.held c.requires.count_le_most_rows in
    let h = c.first_line-first.ensures.here (omega (arith, c.if-count-first.false)) in
    omega (arith, r, h, c.run_start-b.ensures.to)

pub loop-i-init : goal.loop-i-init
loop-i-init c = leads-same _ _ _ _ _ _ _ _ _ _ _ _

pub overflow_add-c : goal.overflow_add-c
overflow_add-c c =
    let r = held-room _ _ _ _ c.requires.held c.requires.count_le_most_rows in
    omega (arith, r, c.if-c-n.false)

pub merge_line-p-requires : goal.merge_line-p-requires
unfolding Leads
merge_line-p-requires c =
    let g = c.loop-i.invariant _ _ c.requires.count_le_most_rows c.requires.spots (going-begin _ _ _ _ _ _ _ _ _ _ c.requires.count_le_most_rows c.requires.spots _ _ _ c.requires.held _ _ _ c.first_line-first.ensures (omega (arith, c.if-count-first.false)) refl c.run_start-b.ensures _ _ c.slide.ensures.keys_after c.slide.ensures.vals_after) in
    record { i_le_most_rows = omega (arith, c.requires.count_le_most_rows, c.loop-i-test.true); ready = going-ready _ _ _ _ _ _ _ _ _ _ _ _ _ _ _ _ g (omega (arith, c.loop-i-test.true)) _ c.requires.at_le_last_place refl c.if-c-n.false; size_le_row_room = c.requires.size_le_row_room; run_of = c.requires.run_of }

pub loop-i-preserved : goal.loop-i-preserved
loop-i-preserved c = leads-merged _ _ _ _ _ _ _ _ _ _ _ _ _ _ (lines _ _ _ _ _) c.loop-i.invariant (omega (arith, c.loop-i-test.true)) _ (lines _ _ _ _ _) c.merge_line-p.ensures

pub loop-i-preserved-then-c-n : goal.loop-i-preserved-then-c-n
loop-i-preserved-then-c-n c = leads-over _ _ _ _ _ _ _ _ _ _ _ _ _ _ (lines _ _ _ _ _) c.loop-i.invariant (omega (arith, c.loop-i-test.true)) (omega (arith, c.if-c-n.true))

pub slide-requires-2 : goal.slide-requires-2
unfolding Leads
slide-requires-2 c =
    let g = c.loop-i.invariant _ _ c.requires.count_le_most_rows c.requires.spots (going-begin _ _ _ _ _ _ _ _ _ _ c.requires.count_le_most_rows c.requires.spots _ _ _ c.requires.held _ _ _ c.first_line-first.ensures (omega (arith, c.if-count-first.false)) refl c.run_start-b.ensures _ _ c.slide.ensures.keys_after c.slide.ensures.vals_after) in
    let b = going-bounds _ _ _ _ _ _ _ _ _ _ _ _ _ _ _ _ g in
    record { a_le_n = b.1; n_le_cell_room = omega arith; a_bound = omega (arith, b) }

pub overflow_sub-result : goal.overflow_sub-result
unfolding Leads
overflow_sub-result c =
    let g = c.loop-i.invariant _ _ c.requires.count_le_most_rows c.requires.spots (going-begin _ _ _ _ _ _ _ _ _ _ c.requires.count_le_most_rows c.requires.spots _ _ _ c.requires.held _ _ _ c.first_line-first.ensures (omega (arith, c.if-count-first.false)) refl c.run_start-b.ensures _ _ c.slide.ensures.keys_after c.slide.ensures.vals_after) in
    let b = going-bounds _ _ _ _ _ _ _ _ _ _ _ _ _ _ _ _ g in
    omega (arith, b)

pub overflow_add-result : goal.overflow_add-result
unfolding Leads
overflow_add-result c =
    let g = c.loop-i.invariant _ _ c.requires.count_le_most_rows c.requires.spots (going-begin _ _ _ _ _ _ _ _ _ _ c.requires.count_le_most_rows c.requires.spots _ _ _ c.requires.held _ _ _ c.first_line-first.ensures (omega (arith, c.if-count-first.false)) refl c.run_start-b.ensures _ _ c.slide.ensures.keys_after c.slide.ensures.vals_after) in
    let b = going-bounds _ _ _ _ _ _ _ _ _ _ _ _ _ _ _ _ g in
    omega (arith, b)

pub returns : goal.returns
unfolding Leads
returns c =
    let g = c.loop-i.invariant _ _ c.requires.count_le_most_rows c.requires.spots (going-begin _ _ _ _ _ _ _ _ _ _ c.requires.count_le_most_rows c.requires.spots _ _ _ c.requires.held _ _ _ c.first_line-first.ensures (omega (arith, c.if-count-first.false)) refl c.run_start-b.ensures _ _ c.slide.ensures.keys_after c.slide.ensures.vals_after) in
    alike-whole _ _ _ _ _ _ _ _ _ _ _ _ _ (rw c.nothing-w.ensures mark-clean) (going_end _ _ _ _ _ _ _ _ _ _ _ _ _ _ (lines _ _ _ _ _) _ _ _ g (omega (arith, c.loop-i-test.false)) c.slide-2.ensures.keys_after c.slide-2.ensures.vals_after)
