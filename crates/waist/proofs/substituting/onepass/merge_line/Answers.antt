use mathlib.Core.Path.{refl}
use native.Mathlib.Omega.{arith}
use Rattle.steps.specs.Number.{cell_bound, constant_bound}
use Rattle.rows.specs.Marks.{joined-mark}
use Rattle.waist.specs.substituting.Lines.{lines}
use Rattle.waist.specs.substituting.Apart.{far-run}
use Rattle.waist.specs.substituting.Carried.{Carries, carried}
use Rattle.waist.proofs.substituting.onepass.merge_line.Goals as goal

pub run_start-a-requires : goal.run_start-a-requires
run_start-a-requires c = record { a_le_c = c.requires.ready.from; c_le_cell_room = omega (arith, c.requires.ready.to) }

pub run_end-e-requires : goal.run_end-e-requires
run_end-e-requires c = record { c_le_e = omega (arith, c.requires.ready.to); e_le_cell_room = omega arith }

pub merge_run-w-requires : goal.merge_run-w-requires
merge_run-w-requires c = record { a_le_e = omega (arith, c.run_start-a.ensures.to, c.run_end-e.ensures.from); e_le_cell_room = c.run_end-e.ensures.to; size_le_row_room = c.requires.size_le_row_room; i_lt_top_row = omega (arith, c.requires.i_le_most_rows); run_of = far-run _ _ _ _ _ _ c.requires.ready _ _ c.run_start-a.ensures c.run_end-e.ensures; run_of_2 = c.requires.run_of }

pub overflow_add-next : goal.overflow_add-next
overflow_add-next c = omega (arith, c.requires.ready.room, c.requires.ready.to, c.run_start-a.ensures.to)

pub slide-requires : goal.slide-requires
slide-requires c = record { a_le_n = c.run_start-a.ensures.from; n_le_cell_room = omega (arith, c.requires.ready.to, c.run_start-a.ensures.to); a_bound = omega (arith, c.requires.ready.room, c.requires.ready.to, c.run_start-a.ensures.to) }

pub paste-requires : goal.paste-requires
paste-requires c = record { size_le_row_room = omega (arith, c.merge_run-w.ensures.size_le_last_place); size_bound = omega (arith, c.requires.ready.room, c.requires.ready.to, c.run_start-a.ensures.from, c.run_start-a.ensures.to, c.merge_run-w.ensures.size_le_last_place) }

pub overflow_add-result : goal.overflow_add-result
overflow_add-result c = omega (arith, c.requires.ready.room, c.requires.ready.to, c.run_start-a.ensures.from, c.run_start-a.ensures.to, c.merge_run-w.ensures.size_le_last_place)

pub returns : goal.returns
unfolding Carries cell_bound constant_bound
returns c =
    λ count n keys₀ t few first last h p.
    carried _ _ _ _ _ _ _ _ _ (lines _ _ _ _ _) c.requires.ready _ _ c.run_start-a.ensures c.run_end-e.ensures count n keys₀ t few first last h p _ _ _ _ _ _ _ _ _ (omega arith) (omega arith) c.merge_run-w.ensures.run_after c.slide.ensures.keys_after c.slide.ensures.vals_after c.paste.ensures.keys_after c.paste.ensures.vals_after _ _ _ _ refl refl c.merge_run-w.ensures.wrote_value
    (joined-mark _ _ c.joined-2.ensures refl (joined-mark _ _ c.joined.ensures c.mark_write-t.ensures refl))
