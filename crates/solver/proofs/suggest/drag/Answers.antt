use Rattle.sparse.specs.Tables.{held, lent}
use Rattle.std.proofs.Common.{rules}
use native.Mathlib.Omega.{arith}
use Rattle.waist.specs.Ending.{ended_of}
use Rattle.solver.specs.Begin.{counts-at-start, standing-at-start}
use Rattle.solver.specs.Suggesting.{drag-live, drag-ends}
use Rattle.solver.proofs.suggest.drag.Goals as goal

pub overflow_add-marker : goal.overflow_add-marker
overflow_add-marker c = let k = (counts-at-start (lent c.args.tables.now) (held c.args.room.now) c.requires.entered).edits in omega (arith, k, c.requires.j_bound)

pub bounds-tables-j : goal.bounds-tables-j
bounds-tables-j c = let k = (counts-at-start (lent c.args.tables.now) (held c.args.room.now) c.requires.entered).edits in omega (arith, k, c.requires.j_bound)

pub overflow_add-other : goal.overflow_add-other
overflow_add-other c = let k = (counts-at-start (lent c.args.tables.now) (held c.args.room.now) c.requires.entered).edits in omega (arith, k, c.requires.j_bound)

pub bounds-tables-j-2 : goal.bounds-tables-j-2
bounds-tables-j-2 c = let k = (counts-at-start (lent c.args.tables.now) (held c.args.room.now) c.requires.entered).edits in omega (arith, k, c.requires.j_bound)

pub overflow_add-stored : goal.overflow_add-stored
overflow_add-stored c = let k = (counts-at-start (lent c.args.tables.now) (held c.args.room.now) c.requires.entered).edits in omega (arith, k, c.requires.j_bound)

pub offset_bounds-tables-j : goal.offset_bounds-tables-j
offset_bounds-tables-j c = let k = (counts-at-start (lent c.args.tables.now) (held c.args.room.now) c.requires.entered).edits in omega (arith, k, c.requires.j_bound)

pub bounds-tables-j-3 : goal.bounds-tables-j-3
bounds-tables-j-3 c = let k = (counts-at-start (lent c.args.tables.now) (held c.args.room.now) c.requires.entered).edits in omega (arith, k, c.requires.j_bound)

pub suggest_steps-requires : goal.suggest_steps-requires
suggest_steps-requires c = let l = drag-live (lent c.args.tables.now) (held c.args.room.now) c.requires.entered c.args.j c.requires.j_bound in
    record { standing = rw c.stored_mark-before.ensures (standing-at-start (lent c.args.tables.now) (held c.args.room.now) c.requires.entered); le_marker = l.0; marker_bound = l.1; other_bound = l.2 }

pub returns : goal.returns
returns c = record { wvalues_value = drag-ends (lent c.args.tables.now) (held c.args.room.now) c.requires.entered c.args.j c.requires.j_bound c.args.budget c.args.new c.stored_mark-before.result c.stored_mark-before.ensures (ended_of c.suggest_steps.result) (held c.suggest_steps.new.room) c.suggest_steps.ensures.values_value; goes = c.suggest_steps.ensures.goes; same = search rules }
