use Rattle.sparse.specs.Tables.{held, lent}
use Rattle.steps.specs.Number.{zero64}
use Rattle.addition.specs.Whole.{added_of, added-refusal}
use Rattle.solver.specs.Begin.{spare-at-start}
use Rattle.solver.specs.Concluding.{never-zero, went, tag-live}
use Rattle.solver.specs.EditAdding.{edit-opens, edit-room, edit-comes, edit-add-refused, edit-add-accepted}
use Rattle.std.specs.Prelude.{Ok, Err}
use mathlib.Core.Path.{refl, sym, ◌∙◌}
use Rattle.waist.specs.Ending.{ended_of}
use Rattle.solver.proofs.add_edit.add_edit_known.Goals as goal

pub add_steps-requires : goal.add_steps-requires
unfolding zero64
add_steps-requires c = record { opening = edit-opens c.args.n c.args.budget c.args.strength (lent c.args.tables.now) (held c.args.room.now) c.requires.entered c.requires.bytes_value c.stored_mark-before.result c.stored_mark-before.ensures c.edit_pack-p.result c.edit_pack-p.ensures; spare = spare-at-start (lent c.args.tables.now) (held c.args.room.now) c.requires.entered }

pub returns-in-Err-clause-does : goal.returns-in-Err-clause-does
unfolding added_of zero64
returns-in-Err-clause-does c = edit-add-refused c.args.n c.args.budget c.args.strength (lent c.args.tables.now) (held c.args.room.now) c.requires.entered c.requires.bytes_value c.stored_mark-before.result c.stored_mark-before.ensures c.edit_pack-p.result c.edit_pack-p.ensures (ended_of (Err c.in-Err.e)) 0 0 (held c.add_steps.new.room) c.clip-held.result c.clip-held.ensures (sym (added-refusal c.in-Err.e 0 0 _) ∙ c.in-Err.ensures.values_value) c.refused.result c.refused.ensures (never-zero c.in-Err.e.why) (held c.add_steps.new.room)

pub with_edit-requires : goal.with_edit-requires
unfolding added_of zero64
with_edit-requires c = let m = edit-comes c.args.n c.args.budget c.args.strength (lent c.args.tables.now) (held c.args.room.now) c.requires.entered c.requires.bytes_value c.stored_mark-before.result c.stored_mark-before.ensures c.edit_pack-p.result c.edit_pack-p.ensures (ended_of (Ok c.in-Ok.a.went)) c.in-Ok.a.marker c.in-Ok.a.other (held c.add_steps.new.room) c.clip-held.result c.clip-held.ensures c.in-Ok.ensures.values_value c.in-Ok.ensures.goes refl in let l = tag-live (ended_of (Ok c.in-Ok.a.went)) (held c.add_steps.new.room) c.in-Ok.a.marker c.in-Ok.a.other (went (ended_of (Ok c.in-Ok.a.went)) (held c.add_steps.new.room) c.in-Ok.ensures.goes refl) c.in-Ok.ensures.then refl in
    rw c.close.ensures (record { comes = m.0; le_marker = l.0; marker_bound = l.1; other_bound = l.2; values_bound = edit-room c.args.n c.args.budget c.args.strength (lent c.args.tables.now) (held c.args.room.now) c.requires.entered c.requires.bytes_value c.stored_mark-before.result c.stored_mark-before.ensures c.edit_pack-p.result c.edit_pack-p.ensures; wvalues_value = m.1 })

pub returns-clause-does : goal.returns-clause-does
unfolding added_of zero64
returns-clause-does c = edit-add-accepted c.args.n c.args.budget c.args.strength (lent c.args.tables.now) (held c.args.room.now) c.requires.entered c.requires.bytes_value c.stored_mark-before.result c.stored_mark-before.ensures c.edit_pack-p.result c.edit_pack-p.ensures (ended_of (Ok c.in-Ok.a.went)) c.in-Ok.a.marker c.in-Ok.a.other (held c.add_steps.new.room) c.clip-held.result c.clip-held.ensures c.in-Ok.ensures.values_value c.accepted.result c.accepted.ensures c.in-Ok.ensures.goes refl (held c.with_edit.new.room) (rw c.close.ensures at c.with_edit.ensures.does)
