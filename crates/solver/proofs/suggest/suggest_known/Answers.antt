use Rattle.sparse.specs.Tables.{held, lent}
use Rattle.solver.specs.Begin.{counts-at-start, numbers-at-start}
use Rattle.solver.specs.Placed.{variable-known}
use Rattle.solver.specs.Suggesting.{in-range, drag-comes, drag-refused, drag-accepted}
use Rattle.std.specs.Prelude.{Ok, Err}
use mathlib.Core.Path.{refl}
use Rattle.waist.specs.Ending.{ended_of}
use Rattle.solver.specs.Concluding.{never-zero}
use Rattle.solver.proofs.suggest.suggest_known.Goals as goal

pub edit_place-j-requires : goal.edit_place-j-requires
edit_place-j-requires c =
    let t = lent c.args.tables.now in
    let w = held c.args.room.now in
    let k = counts-at-start t w c.requires.entered in
    record { words_bound = k.variables; words_bound_2 = k.edits; n_bound = variable-known c.args.tables.now.words.now c.args.tables.now.bytes.now c.args.n c.requires.n_value; ascends = numbers-at-start t w c.requires.entered }

pub drag-requires : goal.drag-requires
drag-requires c = record { entered = c.requires.entered; j_bound = in-range c.args.n c.args.budget c.args.new (lent c.args.tables.now) (held c.args.room.now) c.requires.entered c.edit_place-j.result c.requires.value c.requires.n_value c.edit_place-j.ensures }

pub returns-in-Err-clause-does : goal.returns-in-Err-clause-does
returns-in-Err-clause-does c = drag-refused c.args.n c.args.budget c.args.new (lent c.args.tables.now) (held c.args.room.now) c.requires.entered c.edit_place-j.result c.requires.value c.requires.n_value c.edit_place-j.ensures (ended_of (Err c.in-Err.e)) (held c.drag.new.room) c.in-Err.ensures.wvalues_value c.refused.result c.refused.ensures (never-zero c.in-Err.e.why) (held c.drag.new.room)

pub with_suggestion-requires : goal.with_suggestion-requires
with_suggestion-requires c = let m = drag-comes c.args.n c.args.budget c.args.new (lent c.args.tables.now) (held c.args.room.now) c.requires.entered c.edit_place-j.result c.requires.value c.requires.n_value c.edit_place-j.ensures (ended_of (Ok c.in-Ok.went)) (held c.drag.new.room) c.in-Ok.ensures.wvalues_value c.in-Ok.ensures.goes refl in
    rw c.close.ensures (record { comes = m.0; j_bound = in-range c.args.n c.args.budget c.args.new (lent c.args.tables.now) (held c.args.room.now) c.requires.entered c.edit_place-j.result c.requires.value c.requires.n_value c.edit_place-j.ensures; wvalues_value = m.1 })

pub returns-clause-does : goal.returns-clause-does
returns-clause-does c = drag-accepted c.args.n c.args.budget c.args.new (lent c.args.tables.now) (held c.args.room.now) c.requires.entered c.edit_place-j.result c.requires.value c.requires.n_value c.edit_place-j.ensures (ended_of (Ok c.in-Ok.went)) (held c.drag.new.room) c.in-Ok.ensures.wvalues_value c.accepted.result c.accepted.ensures c.in-Ok.ensures.goes refl (held c.with_suggestion.new.room) (rw c.close.ensures at c.with_suggestion.ensures.does)
