use Rattle.sparse.specs.Tables.{held}
use mathlib.Core.Path.{◌≡◌, refl, sym, ap, subst, ◌∙◌}
use native.Mathlib.Omega.{arith}
use mathlib.Core.Bool.{false}
use Rattle.std.specs.Prelude.{◌<◌}
use Rattle.steps.specs.Edit.{suggest_steps}
use Rattle.sparse.specs.Sparse.{edit_count, edit_of, read}
use Rattle.waist.specs.Ending.{outcome_of, ended_of}
use Rattle.lending.specs.Entered.{Entered}
use Rattle.steps.specs.Calls.{Answer, begin}
use Rattle.solver.specs.Begin.{counts-at-start, numbers-at-start}
use Rattle.solver.specs.Placed.{variable-known}
use Rattle.solver.specs.Suggesting.{in-range, drag-refused}
use Rattle.solver.specs.BackCalls.{in-refused, back_fits, back-accepted}
use Rattle.std.specs.Prelude.{Ok, Err}
use Rattle.solver.specs.Concluding.{never-zero}
use Rattle.solver.proofs.back.suggest_known.Goals as goal

pub edit_place-j-requires : goal.edit_place-j-requires
edit_place-j-requires c =
    let t = held c.args.tables.now in
    let w = held c.args.room.now in
    let k = counts-at-start t w c.requires.entered in
    record { words_bound = k.variables; words_bound_2 = k.edits; n_bound = variable-known c.args.tables.now.words.now c.args.tables.now.bytes.now c.args.n c.requires.n_value; ascends = numbers-at-start t w c.requires.entered }

pub drag-requires : goal.drag-requires
drag-requires c = record { entered = subst (λ t. Entered t (held c.args.room.now)) (sym c.lend.ensures) c.requires.entered; j_bound = subst (λ t. c.edit_place-j.result < edit_count t) (sym c.lend.ensures) (in-range c.args.n c.args.budget c.args.new (held c.args.tables.now) (held c.args.room.now) c.requires.entered c.edit_place-j.result c.requires.value c.requires.n_value c.edit_place-j.ensures) }

pub returns-in-Err-clause-does : goal.returns-in-Err-clause-does
returns-in-Err-clause-does c = in-refused c.args.n c.args.budget c.args.new (held c.args.tables.now) c.refused.result c.requires.entered.reads (held c.drag.new.room) (λ z. (never-zero c.in-Err.e.why) (sym (ap (λ (b : Answer). b.number) c.refused.ensures) ∙ z)) (drag-refused c.args.n c.args.budget c.args.new (held c.args.tables.now) (held c.args.room.now) c.requires.entered c.edit_place-j.result c.requires.value c.requires.n_value c.edit_place-j.ensures (ended_of (Err c.in-Err.e)) (held c.drag.new.room) (subst (λ t. outcome_of false (ended_of (Err c.in-Err.e)) (held c.drag.new.room) ≡ suggest_steps c.args.budget (edit_of t c.edit_place-j.result) c.args.new (begin (read t))) c.lend.ensures c.in-Err.ensures.wvalues_value) c.refused.result c.refused.ensures (never-zero c.in-Err.e.why) (held c.drag.new.room))

pub put_back-requires : goal.put_back-requires
put_back-requires c = let k = counts-at-start (held c.args.tables.now) (held c.args.room.now) c.requires.entered in let e = k.edits in let l = in-range c.args.n c.args.budget c.args.new (held c.args.tables.now) (held c.args.room.now) c.requires.entered c.edit_place-j.result c.requires.value c.requires.n_value c.edit_place-j.ensures in
    record { counts = k; wvalues_bound = back_fits c.args.n c.args.budget c.args.new (held c.args.tables.now) (held c.args.room.now) c.requires.entered c.edit_place-j.result c.requires.value c.requires.n_value c.edit_place-j.ensures (ended_of (Ok c.in-Ok.went)) (held c.drag.new.room) (subst (λ t. outcome_of false (ended_of (Ok c.in-Ok.went)) (held c.drag.new.room) ≡ suggest_steps c.args.budget (edit_of t c.edit_place-j.result) c.args.new (begin (read t))) c.lend.ensures c.in-Ok.ensures.wvalues_value) c.in-Ok.ensures.goes refl; j_lt_most_constraints = omega (arith, e, l) }

pub returns-clause-does : goal.returns-clause-does
returns-clause-does c = back-accepted c.args.n c.args.budget c.args.new (held c.args.tables.now) (held c.args.room.now) c.requires.entered c.edit_place-j.result c.requires.value c.requires.n_value c.edit_place-j.ensures (ended_of (Ok c.in-Ok.went)) (held c.drag.new.room) (subst (λ t. outcome_of false (ended_of (Ok c.in-Ok.went)) (held c.drag.new.room) ≡ suggest_steps c.args.budget (edit_of t c.edit_place-j.result) c.args.new (begin (read t))) c.lend.ensures c.in-Ok.ensures.wvalues_value) c.in-Ok.ensures.goes refl c.long.ensures c.accepted.result c.accepted.ensures c.put_back.ensures.does
