use Rattle.sparse.specs.Tables.{held}
use native.Mathlib.Omega.{arith}
use Rattle.lending.specs.sparse_copy.Over.{tables}
use Rattle.solver.specs.Begin.{counts-at-start, constraints-at-start, standing-at-start}
use Rattle.solver.specs.StoredTerms.{stored-terms, pack-is}
use Rattle.solver.specs.Removing.{in-range, removal-tag, removal-room, removal-stores, removal-refused, removal-accepted}
use Rattle.std.specs.Prelude.{Ok, Err}
use mathlib.Core.Path.{refl}
use Rattle.waist.specs.Ending.{ended_of}
use Rattle.solver.specs.Concluding.{never-zero}
use Rattle.solver.proofs.remove.remove_known.Goals as goal

pub look_up-j-requires : goal.look_up-j-requires
look_up-j-requires c =
    let t = tables c.args.words.now c.requires.entered_from.0 c.args.bytes.now c.args.reals.now c.requires.entered_from.1 in
    let w = held c.args.room.now in
    let k = (counts-at-start t w c.requires.entered_from.2).constraints in
    record { n_bound = omega (arith, k); ascends = constraints-at-start t w c.requires.entered_from.2 }

pub overflow_add-marker : goal.overflow_add-marker
overflow_add-marker c = let k = (counts-at-start (tables c.args.words.now c.requires.entered_from.0 c.args.bytes.now c.args.reals.now c.requires.entered_from.1) (held c.args.room.now) c.requires.entered_from.2).constraints in omega (arith, k, c.look_up-j.ensures.upper_bound)

pub bounds-bytes-j : goal.bounds-bytes-j
bounds-bytes-j c = let k = (counts-at-start (tables c.args.words.now c.requires.entered_from.0 c.args.bytes.now c.args.reals.now c.requires.entered_from.1) (held c.args.room.now) c.requires.entered_from.2).constraints in omega (arith, k, c.look_up-j.ensures.upper_bound)

pub overflow_add-other : goal.overflow_add-other
overflow_add-other c = let k = (counts-at-start (tables c.args.words.now c.requires.entered_from.0 c.args.bytes.now c.args.reals.now c.requires.entered_from.1) (held c.args.room.now) c.requires.entered_from.2).constraints in omega (arith, k, c.look_up-j.ensures.upper_bound)

pub bounds-bytes-j-2 : goal.bounds-bytes-j-2
bounds-bytes-j-2 c = let k = (counts-at-start (tables c.args.words.now c.requires.entered_from.0 c.args.bytes.now c.args.reals.now c.requires.entered_from.1) (held c.args.room.now) c.requires.entered_from.2).constraints in omega (arith, k, c.look_up-j.ensures.upper_bound)

pub overflow_add-strength : goal.overflow_add-strength
overflow_add-strength c = let k = (counts-at-start (tables c.args.words.now c.requires.entered_from.0 c.args.bytes.now c.args.reals.now c.requires.entered_from.1) (held c.args.room.now) c.requires.entered_from.2).constraints in omega (arith, k, c.look_up-j.ensures.upper_bound)

pub offset_bounds-reals-j : goal.offset_bounds-reals-j
offset_bounds-reals-j c = let k = (counts-at-start (tables c.args.words.now c.requires.entered_from.0 c.args.bytes.now c.args.reals.now c.requires.entered_from.1) (held c.args.room.now) c.requires.entered_from.2).constraints in omega (arith, k, c.look_up-j.ensures.upper_bound)

pub bounds-reals-j : goal.bounds-reals-j
bounds-reals-j c = let k = (counts-at-start (tables c.args.words.now c.requires.entered_from.0 c.args.bytes.now c.args.reals.now c.requires.entered_from.1) (held c.args.room.now) c.requires.entered_from.2).constraints in omega (arith, k, c.look_up-j.ensures.upper_bound)

pub constraint_terms-p-requires : goal.constraint_terms-p-requires
constraint_terms-p-requires c =
    let t = tables c.args.words.now c.requires.entered_from.0 c.args.bytes.now c.args.reals.now c.requires.entered_from.1 in
    let w = held c.args.room.now in
    let l = in-range c.args.n c.args.budget t w c.requires.entered_from.2 c.look_up-j.result c.requires.reals_value c.look_up-j.ensures.value in
    let k = (counts-at-start t w c.requires.entered_from.2).constraints in
    record { j_lt_most_constraints = omega (arith, l, k); terms = stored-terms t c.requires.entered_from.2.reads c.look_up-j.result l }

pub remove_steps-requires : goal.remove_steps-requires
remove_steps-requires c =
    let t = tables c.args.words.now c.requires.entered_from.0 c.args.bytes.now c.args.reals.now c.requires.entered_from.1 in
    let w = held c.args.room.now in
    let l = in-range c.args.n c.args.budget t w c.requires.entered_from.2 c.look_up-j.result c.requires.reals_value c.look_up-j.ensures.value in
    record { standing = rw c.stored_mark-before.ensures (standing-at-start t w c.requires.entered_from.2); tag_lives = removal-tag c.args.n c.args.budget t w c.requires.entered_from.2 c.look_up-j.result c.requires.reals_value c.look_up-j.ensures.value; room = removal-room c.args.n c.args.budget t w c.requires.entered_from.2 c.look_up-j.result c.requires.reals_value c.look_up-j.ensures.value c.stored_mark-before.result c.stored_mark-before.ensures c.constraint_terms-p.result (pack-is t c.requires.entered_from.2.reads c.look_up-j.result l c.constraint_terms-p.ensures) }

pub returns-in-Err-clause-does : goal.returns-in-Err-clause-does
returns-in-Err-clause-does c =
    λ k v en.
    let t = tables c.args.words.now k c.args.bytes.now c.args.reals.now v in
    let w = held c.args.room.now in
    let l = in-range c.args.n c.args.budget t w en c.look_up-j.result c.requires.reals_value c.look_up-j.ensures.value in
    let u = tables c.remove_steps.new.room.words.now c.remove_steps.new.room.keys.now c.remove_steps.new.room.bytes.now c.remove_steps.new.room.reals.now c.remove_steps.new.room.values.now in
    removal-refused c.args.n c.args.budget t w en c.look_up-j.result c.requires.reals_value c.look_up-j.ensures.value c.stored_mark-before.result c.stored_mark-before.ensures
    c.constraint_terms-p.result (pack-is t en.reads c.look_up-j.result l c.constraint_terms-p.ensures) (ended_of (Err c.in-Err.e)) u c.in-Err.ensures.values_value c.refused.result c.refused.ensures (never-zero c.in-Err.e.why) u

pub drop_constraint-requires : goal.drop_constraint-requires
drop_constraint-requires c =
    let t = tables c.args.words.now c.requires.entered_from.0 c.args.bytes.now c.args.reals.now c.requires.entered_from.1 in
    let w = held c.args.room.now in
    let l = in-range c.args.n c.args.budget t w c.requires.entered_from.2 c.look_up-j.result c.requires.reals_value c.look_up-j.ensures.value in
    let u = tables c.remove_steps.new.room.words.now c.remove_steps.new.room.keys.now c.remove_steps.new.room.bytes.now c.remove_steps.new.room.reals.now c.remove_steps.new.room.values.now in
    let s = removal-stores c.args.n c.args.budget t w c.requires.entered_from.2 c.look_up-j.result c.requires.reals_value c.look_up-j.ensures.value c.stored_mark-before.result c.stored_mark-before.ensures
    c.constraint_terms-p.result (pack-is t c.requires.entered_from.2.reads c.look_up-j.result l c.constraint_terms-p.ensures) (ended_of (Ok c.in-Ok.went)) u c.in-Ok.ensures.values_value c.in-Ok.ensures.goes refl in
    rw c.close.ensures (record { stores = s.0; stores_2 = s.1; j_bound = l })

pub returns-clause-does : goal.returns-clause-does
returns-clause-does c =
    λ k v en.
    let t = tables c.args.words.now k c.args.bytes.now c.args.reals.now v in
    let w = held c.args.room.now in
    let l = in-range c.args.n c.args.budget t w en c.look_up-j.result c.requires.reals_value c.look_up-j.ensures.value in
    let u = tables c.remove_steps.new.room.words.now c.remove_steps.new.room.keys.now c.remove_steps.new.room.bytes.now c.remove_steps.new.room.reals.now c.remove_steps.new.room.values.now in
    removal-accepted c.args.n c.args.budget t w en c.look_up-j.result c.requires.reals_value c.look_up-j.ensures.value c.stored_mark-before.result c.stored_mark-before.ensures
    c.constraint_terms-p.result (pack-is t en.reads c.look_up-j.result l c.constraint_terms-p.ensures) (ended_of (Ok c.in-Ok.went)) u c.in-Ok.ensures.values_value c.accepted.result c.accepted.ensures
    c.in-Ok.ensures.goes refl c.drop_constraint.new.words c.drop_constraint.new.bytes c.drop_constraint.new.reals c.drop_constraint.result
    (rw c.close.ensures at c.drop_constraint.ensures)
