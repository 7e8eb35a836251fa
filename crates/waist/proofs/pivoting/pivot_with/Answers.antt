use mathlib.Core.Path.{refl}
use native.Mathlib.Omega.{arith}
use lib.ListN.{length-set}
use Rattle.rows.specs.Marks.{joined-mark}
use Rattle.waist.specs.substituting.Held.{held-room}
use Rattle.waist.specs.Working.{lines-few}
use Rattle.waist.specs.Pivoting.{narrow-held, loaded-set, placed_row, placed-mark, enter-ready, pivot-calls}
use Rattle.waist.proofs.pivoting.pivot_with.Goals as goal

pub load_row-requires : goal.load_row-requires
load_row-requires c =
    let f = held-room _ _ _ _ c.requires.sound.held (lines-few _ _ c.requires.sound) in
    record { n_le_cell_room = omega (arith, f); k_lt_row_room = omega (arith, c.requires.sound.named.few-symbols); i_lt_top_row = omega (arith, c.requires.i_bound, c.requires.sound.few); ascending = c.requires.sound.held.up; narrow = narrow-held _ _ c.requires.sound }

pub solve_for_symbols-u-requires : goal.solve_for_symbols-u-requires
solve_for_symbols-u-requires c =
    let l = c.requires.sound.rows _ c.requires.le_i c.requires.i_bound in
    record { leaving_lt_row_room = omega (arith, l, c.requires.sound.named.few-symbols); entering_lt_row_room = omega (arith, c.requires.entering_bound, c.requires.sound.named.few-symbols); width_lt_row_room = omega (arith, c.requires.sound.named.few-symbols) }

pub drop_row-requires : goal.drop_row-requires
drop_row-requires c = record { sound = c.requires.sound; le_i = c.requires.le_i; i_bound = c.requires.i_bound }

pub enter_basis-v-requires : goal.enter_basis-v-requires
enter_basis-v-requires c =
    let k = enter-ready _ _ _ _ c.requires.sound c.requires.le_i c.requires.i_bound c.requires.le_entering c.requires.entering_bound c.requires.free _ _ _ c.told-row _ (loaded-set _ c.load_row.ensures) (simp length-set c.load_row.array_long) (placed_row _ _ _ _ _ _ _ _ refl refl c.solve_for_symbols-u.ensures.row_after) (placed-mark _ _ _ _ _ _ _ _ refl refl c.solve_for_symbols-u.ensures.result_value) c.drop_row.ensures.does in
    record { sound = k.0; le_at = k.1; at_bound = k.2; free = k.3; row_count_at_bound = k.4; settled_row = k.5 }

pub returns-clause-does : goal.returns-clause-does
returns-clause-does c = pivot-calls _ _ _ _ c.requires.sound c.requires.le_i c.requires.i_bound c.requires.le_entering c.requires.entering_bound c.requires.free _ _ _ c.told-row _ (loaded-set _ c.load_row.ensures) (simp length-set c.load_row.array_long) (placed_row _ _ _ _ _ _ _ _ refl refl c.solve_for_symbols-u.ensures.row_after) (placed-mark _ _ _ _ _ _ _ _ refl refl c.solve_for_symbols-u.ensures.result_value) c.drop_row.ensures.does c.enter_basis-v.ensures.does (joined-mark _ _ c.joined.ensures refl refl)
