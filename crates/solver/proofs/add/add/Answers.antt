use Rattle.sparse.specs.Tables.{held, lent}
use mathlib.Core.Path.{ap, ◌∙◌}
use lib.Ieee.{Float}
use Rattle.changes.specs.tags.Tags.{relation_of}
use Rattle.changes.specs.terms.Terms.{listed}
use Rattle.sparse.specs.Refusals.{number-some}
use Rattle.refusals.specs.Refusals.{cutoff_in, add_refusal}
use Rattle.solver.specs.Begin.{counts-at-start, numbers-at-start, constraints-at-start}
use Rattle.solver.specs.Adding.{add-by-test}
use Rattle.solver.proofs.add.add.Goals as goal

pub add_tests-requires : goal.add_tests-requires
add_tests-requires c =
    let t = lent c.args.tables.now in
    let w = held c.args.room.now in
    let k = counts-at-start t w c.requires in
    record { words_bound = k.variables; words_bound_2 = k.constraints; words_bound_3 = k.edits; ascends = numbers-at-start t w c.requires; ascends_2 = constraints-at-start t w c.requires }

pub returns-in-Err-clause-does : goal.returns-in-Err-clause-does
returns-in-Err-clause-does c = add-by-test c.args.g c.args.n c.args.budget c.proper-q.result c.args.constant (relation_of c.args.relation) (lent c.args.tables.now) (held c.args.room.now) (held c.args.room.now) c.refused_by_test.result c.requires (c.in-Err.ensures ∙ ap (λ (s : Float). add_refusal (cutoff_in c.args.tables.now.reals.now) c.args.g c.args.n c.proper-q.result c.args.constant s c.args.tables.now.words.now) c.strength_of-strength.ensures) (number-some c.in-Err.why) c.refused_by_test.ensures (listed c.args.p) c.proper-q.ensures
