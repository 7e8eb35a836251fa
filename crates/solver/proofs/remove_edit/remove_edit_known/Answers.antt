use Rattle.sparse.specs.Tables.{held, lent}
use native.Mathlib.Omega.{arith}
use Rattle.refusals.specs.Known.{remove-edit-passed}
use Rattle.solver.specs.Begin.{counts-at-start, numbers-at-start, standing-at-start}
use Rattle.solver.specs.Placed.{variable-known}
use Rattle.solver.specs.EditRemoving.{in-range, removal-tag, removal-room, removal-comes, edit-refused, edit-accepted}
use Rattle.std.specs.Prelude.{Ok, Err}
use mathlib.Core.Path.{refl}
use Rattle.waist.specs.Ending.{ended_of}
use Rattle.solver.specs.Concluding.{never-zero}
use Rattle.solver.proofs.remove_edit.remove_edit_known.Goals as goal

pub edit_place-j-requires : goal.edit_place-j-requires
edit_place-j-requires c =
    let t = lent c.args.tables.now in
    let w = held c.args.room.now in
    let k = counts-at-start t w c.requires.entered in
    record { words_bound = k.variables; words_bound_2 = k.edits; n_bound = variable-known c.args.tables.now.words.now c.args.tables.now.bytes.now c.args.n (remove-edit-passed c.args.n c.args.tables.now.words.now c.args.tables.now.bytes.now c.args.tables.now.reals.now c.requires.reals_value).0; ascends = numbers-at-start t w c.requires.entered }

pub overflow_add-marker : goal.overflow_add-marker
overflow_add-marker c = let k = (counts-at-start (lent c.args.tables.now) (held c.args.room.now) c.requires.entered).edits in let l = in-range c.args.n c.args.budget (lent c.args.tables.now) (held c.args.room.now) c.requires.entered c.edit_place-j.result c.requires.reals_value c.edit_place-j.ensures in omega (arith, k, l)

pub bounds-tables-j : goal.bounds-tables-j
bounds-tables-j c = let k = (counts-at-start (lent c.args.tables.now) (held c.args.room.now) c.requires.entered).edits in let l = in-range c.args.n c.args.budget (lent c.args.tables.now) (held c.args.room.now) c.requires.entered c.edit_place-j.result c.requires.reals_value c.edit_place-j.ensures in omega (arith, k, l)

pub overflow_add-other : goal.overflow_add-other
overflow_add-other c = let k = (counts-at-start (lent c.args.tables.now) (held c.args.room.now) c.requires.entered).edits in let l = in-range c.args.n c.args.budget (lent c.args.tables.now) (held c.args.room.now) c.requires.entered c.edit_place-j.result c.requires.reals_value c.edit_place-j.ensures in omega (arith, k, l)

pub bounds-tables-j-2 : goal.bounds-tables-j-2
bounds-tables-j-2 c = let k = (counts-at-start (lent c.args.tables.now) (held c.args.room.now) c.requires.entered).edits in let l = in-range c.args.n c.args.budget (lent c.args.tables.now) (held c.args.room.now) c.requires.entered c.edit_place-j.result c.requires.reals_value c.edit_place-j.ensures in omega (arith, k, l)

pub overflow_add-strength : goal.overflow_add-strength
overflow_add-strength c = let k = (counts-at-start (lent c.args.tables.now) (held c.args.room.now) c.requires.entered).edits in let l = in-range c.args.n c.args.budget (lent c.args.tables.now) (held c.args.room.now) c.requires.entered c.edit_place-j.result c.requires.reals_value c.edit_place-j.ensures in omega (arith, k, l)

pub offset_bounds-tables-j : goal.offset_bounds-tables-j
offset_bounds-tables-j c = let k = (counts-at-start (lent c.args.tables.now) (held c.args.room.now) c.requires.entered).edits in let l = in-range c.args.n c.args.budget (lent c.args.tables.now) (held c.args.room.now) c.requires.entered c.edit_place-j.result c.requires.reals_value c.edit_place-j.ensures in omega (arith, k, l)

pub bounds-tables-j-3 : goal.bounds-tables-j-3
bounds-tables-j-3 c = let k = (counts-at-start (lent c.args.tables.now) (held c.args.room.now) c.requires.entered).edits in let l = in-range c.args.n c.args.budget (lent c.args.tables.now) (held c.args.room.now) c.requires.entered c.edit_place-j.result c.requires.reals_value c.edit_place-j.ensures in omega (arith, k, l)

pub remove_steps-requires : goal.remove_steps-requires
remove_steps-requires c =
    let t = lent c.args.tables.now in
    let w = held c.args.room.now in
    record { standing = rw c.stored_mark-before.ensures (standing-at-start t w c.requires.entered); tag_lives = removal-tag c.args.n c.args.budget t w c.requires.entered c.edit_place-j.result c.requires.reals_value c.edit_place-j.ensures; room = removal-room c.args.n c.args.budget t w c.requires.entered c.edit_place-j.result c.requires.reals_value c.edit_place-j.ensures c.stored_mark-before.result c.stored_mark-before.ensures c.edit_pack-p.result c.edit_pack-p.ensures }

pub returns-in-Err-clause-does : goal.returns-in-Err-clause-does
returns-in-Err-clause-does c = edit-refused c.args.n c.args.budget (lent c.args.tables.now) (held c.args.room.now) c.requires.entered c.edit_place-j.result c.requires.reals_value c.edit_place-j.ensures c.stored_mark-before.result c.stored_mark-before.ensures c.edit_pack-p.result c.edit_pack-p.ensures (ended_of (Err c.in-Err.e)) (held c.remove_steps.new.room) c.in-Err.ensures.values_value c.refused.result c.refused.ensures (never-zero c.in-Err.e.why) (held c.remove_steps.new.room)

pub without_edit-requires : goal.without_edit-requires
without_edit-requires c = let m = removal-comes c.args.n c.args.budget (lent c.args.tables.now) (held c.args.room.now) c.requires.entered c.edit_place-j.result c.requires.reals_value c.edit_place-j.ensures c.stored_mark-before.result c.stored_mark-before.ensures c.edit_pack-p.result c.edit_pack-p.ensures (ended_of (Ok c.in-Ok.went)) (held c.remove_steps.new.room) c.in-Ok.ensures.values_value c.in-Ok.ensures.goes refl in
    rw c.close.ensures (record { comes = m.0; j_bound = in-range c.args.n c.args.budget (lent c.args.tables.now) (held c.args.room.now) c.requires.entered c.edit_place-j.result c.requires.reals_value c.edit_place-j.ensures; wvalues_value = m.1 })

pub returns-clause-does : goal.returns-clause-does
returns-clause-does c = edit-accepted c.args.n c.args.budget (lent c.args.tables.now) (held c.args.room.now) c.requires.entered c.edit_place-j.result c.requires.reals_value c.edit_place-j.ensures c.stored_mark-before.result c.stored_mark-before.ensures c.edit_pack-p.result c.edit_pack-p.ensures (ended_of (Ok c.in-Ok.went)) (held c.remove_steps.new.room) c.in-Ok.ensures.values_value c.accepted.result c.accepted.ensures c.in-Ok.ensures.goes refl (held c.without_edit.new.room) (rw c.close.ensures at c.without_edit.ensures.does)
