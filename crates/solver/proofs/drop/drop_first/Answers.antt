use Rattle.sparse.specs.Tables.{held}
use Prim.Native.Nat.{◌-◌}
use mathlib.Core.Path.{refl}
use native.Mathlib.Omega.{arith}
use Rattle.sparse_test.specs.Meaning.{reads-form}
use Rattle.solver.specs.Dropped.{place-in, first_small, first-free, first-within, went-by}
use Rattle.solver.proofs.drop.drop_first.Goals as goal

pub group_place-j-requires : goal.group_place-j-requires
group_place-j-requires c = (reads-form (held c.args.room.now) c.requires.values_value).counts.constraints

pub overflow_add-n : goal.overflow_add-n
overflow_add-n c =
    let t = held c.args.room.now in
    let k = (reads-form t c.requires.values_value).counts.constraints in
    let l = place-in t c.args.g c.requires.g_value in
    omega (arith, k, l, c.group_place-j.ensures)

pub offset_bounds-room-j : goal.offset_bounds-room-j
offset_bounds-room-j c =
    let t = held c.args.room.now in
    let k = (reads-form t c.requires.values_value).counts.constraints in
    let l = place-in t c.args.g c.requires.g_value in
    omega (arith, k, l, c.group_place-j.ensures)

pub bounds-room-j : goal.bounds-room-j
bounds-room-j c =
    let t = held c.args.room.now in
    let k = (reads-form t c.requires.values_value).counts.constraints in
    let l = place-in t c.args.g c.requires.g_value in
    omega (arith, k, l, c.group_place-j.ensures)

pub overflow_cast-n : goal.overflow_cast-n
overflow_cast-n c =
    let n = first_small c.args.g (held c.args.room.now) c.requires.values_value c.requires.g_value in
    rw c.group_place-j.ensures (omega (arith, n))

pub remove_again-a-requires : goal.remove_again-a-requires
remove_again-a-requires c = record { values_value = c.requires.values_value; reals_value = rw c.group_place-j.ensures (first-free c.args.g (held c.args.room.now) c.requires.values_value c.requires.g_value c.requires.removable 0) }

pub overflow_add-result : goal.overflow_add-result
overflow_add-result c =
    let s = first-within c.args.g (held c.args.room.now) c.requires.values_value c.requires.g_value c.requires.removable (c.args.budget - c.args.pivots) c.remove_again-a.result c.group_place-j.ensures c.remove_again-a.ensures.done.0 in
    omega (arith, s, c.requires.pivots_le_budget, c.ranges.budget)

pub returns-clause-does : goal.returns-clause-does
returns-clause-does c = went-by c.args.g c.args.budget c.args.pivots (held c.args.room.now) (held c.remove_again-a.new.room) c.remove_again-a.result _ c.group_place-j.ensures c.remove_again-a.ensures.done c.remove_again-a.ensures.then refl
