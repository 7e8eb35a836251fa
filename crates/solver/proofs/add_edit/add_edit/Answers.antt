use Rattle.sparse.specs.Tables.{held, lent}
use mathlib.Core.Path.{ap, ◌∙◌}
use lib.Ieee.{Float}
use Rattle.sparse.specs.Refusals.{number-some}
use Rattle.refusals.specs.Refusals.{cutoff_in, add_edit_refusal}
use Rattle.solver.specs.Begin.{counts-at-start, numbers-at-start}
use Rattle.solver.specs.EditAdding.{add-edit-by-test}
use Rattle.solver.proofs.add_edit.add_edit.Goals as goal

pub add_edit_tests-requires : goal.add_edit_tests-requires
add_edit_tests-requires c =
    let t = lent c.args.tables.now in
    let w = held c.args.room.now in
    let k = counts-at-start t w c.requires in
    record { words_bound = k.variables; words_bound_2 = k.constraints; words_bound_3 = k.edits; ascends = numbers-at-start t w c.requires }

pub returns-in-Err-clause-does : goal.returns-in-Err-clause-does
returns-in-Err-clause-does c = add-edit-by-test c.args.n c.args.budget c.args.strength (lent c.args.tables.now) (held c.args.room.now) (held c.args.room.now) c.refused_by_test.result c.requires (c.in-Err.ensures ∙ ap (λ (s : Float). add_edit_refusal (cutoff_in c.args.tables.now.reals.now) c.args.n s c.args.tables.now.words.now c.args.tables.now.bytes.now) c.clip-held.ensures) (number-some c.in-Err.why) c.refused_by_test.ensures
