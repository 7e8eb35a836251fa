use Rattle.sparse.specs.Tables.{held, lent}
use Rattle.changes.specs.tags.Tags.{relation_of}
use Rattle.addition.specs.Whole.{added_of, added-refusal}
use Rattle.solver.specs.Begin.{spare-at-start}
use Rattle.solver.specs.StoredTerms.{kept-few}
use Rattle.solver.specs.Concluding.{never-zero, went, tag-live}
use Rattle.solver.specs.Adding.{add-opens, add-room, addition-comes, addition-refused, addition-accepted}
use Rattle.std.specs.Prelude.{Ok, Err}
use mathlib.Core.Path.{refl, sym, ◌∙◌}
use Rattle.waist.specs.Ending.{ended_of}
use Rattle.solver.proofs.add.add_known.Goals as goal

pub add_steps-requires : goal.add_steps-requires
add_steps-requires c = record { opening = add-opens c.args.g c.args.n c.args.budget c.args.p c.args.constant (relation_of c.args.relation) (lent c.args.tables.now) (held c.args.room.now) c.requires.entered c.requires.words_value c.stored_mark-before.result c.stored_mark-before.ensures; spare = spare-at-start (lent c.args.tables.now) (held c.args.room.now) c.requires.entered }

pub returns-in-Err-clause-does : goal.returns-in-Err-clause-does
unfolding added_of
returns-in-Err-clause-does c = addition-refused c.args.g c.args.n c.args.budget c.args.p c.args.constant (relation_of c.args.relation) (lent c.args.tables.now) (held c.args.room.now) c.requires.entered c.requires.words_value c.stored_mark-before.result c.stored_mark-before.ensures (ended_of (Err c.in-Err.e)) 0 0 (held c.add_steps.new.room) (sym (added-refusal c.in-Err.e 0 0 _) ∙ c.in-Err.ensures.values_value) c.refused.result c.refused.ensures (never-zero c.in-Err.e.why) (held c.add_steps.new.room)

pub with_constraint-requires : goal.with_constraint-requires
unfolding added_of
with_constraint-requires c = let m = addition-comes c.args.g c.args.n c.args.budget c.args.p c.args.constant (relation_of c.args.relation) (lent c.args.tables.now) (held c.args.room.now) c.requires.entered c.requires.words_value c.stored_mark-before.result c.stored_mark-before.ensures (ended_of (Ok c.in-Ok.a.went)) c.in-Ok.a.marker c.in-Ok.a.other (held c.add_steps.new.room) c.in-Ok.ensures.values_value c.requires.packed.0 c.requires.packed.1 c.in-Ok.ensures.goes refl c.kept-kept.result c.kept-kept.ensures c.strength_of-strength.result c.strength_of-strength.ensures in let l = tag-live (ended_of (Ok c.in-Ok.a.went)) (held c.add_steps.new.room) c.in-Ok.a.marker c.in-Ok.a.other (went (ended_of (Ok c.in-Ok.a.went)) (held c.add_steps.new.room) c.in-Ok.ensures.goes refl) c.in-Ok.ensures.then refl in
    rw c.close.ensures (record { comes = m.0; le_marker = l.0; marker_bound = l.1; other_bound = l.2; values_bound = add-room c.args.g c.args.n c.args.budget c.args.p c.args.constant (relation_of c.args.relation) (lent c.args.tables.now) (held c.args.room.now) c.requires.entered c.requires.words_value c.stored_mark-before.result c.stored_mark-before.ensures; count_le_term_room = kept-few _ c.args.p c.kept-kept.ensures; wvalues_value = m.1 })

pub returns-clause-does : goal.returns-clause-does
unfolding added_of
returns-clause-does c = addition-accepted c.args.g c.args.n c.args.budget c.args.p c.args.constant (relation_of c.args.relation) (lent c.args.tables.now) (held c.args.room.now) c.requires.entered c.requires.words_value c.stored_mark-before.result c.stored_mark-before.ensures (ended_of (Ok c.in-Ok.a.went)) c.in-Ok.a.marker c.in-Ok.a.other (held c.add_steps.new.room) c.in-Ok.ensures.values_value c.accepted.result c.accepted.ensures c.in-Ok.ensures.goes refl c.kept-kept.result c.kept-kept.ensures c.strength_of-strength.result c.strength_of-strength.ensures (held c.with_constraint.new.room) (rw c.close.ensures at c.with_constraint.ensures.does)
