use Rattle.sparse.specs.Tables.{held}
use mathlib.Core.Path.{sym, ap, ◌∙◌}
use Rattle.steps.specs.Calls.{Answer}
use Rattle.sparse.specs.Refusals.{number-some}
use Rattle.refusals.specs.Known.{suggest-passed}
use Rattle.solver.specs.Begin.{counts-at-start, numbers-at-start}
use Rattle.solver.specs.Suggesting.{suggest-by-test}
use Rattle.solver.specs.BackCalls.{in-refused}
use Rattle.solver.proofs.back.suggest_back.Goals as goal

pub suggest_tests-requires : goal.suggest_tests-requires
suggest_tests-requires c = let k = counts-at-start (held c.args.tables.now) (held c.args.room.now) c.requires in
    record { words_bound = k.variables; words_bound_2 = k.edits; ascends = numbers-at-start (held c.args.tables.now) (held c.args.room.now) c.requires }

pub returns-in-Err-clause-does : goal.returns-in-Err-clause-does
returns-in-Err-clause-does c = in-refused c.args.n c.args.budget c.args.new (held c.args.tables.now) c.refused_by_test.result c.requires.reads (held c.args.tables.now) (λ z. number-some c.in-Err.why (sym (ap (λ (b : Answer). b.number) c.refused_by_test.ensures) ∙ z)) (suggest-by-test c.args.n c.args.budget c.args.new (held c.args.tables.now) (held c.args.room.now) (held c.args.tables.now) c.refused_by_test.result c.requires c.in-Err.ensures (number-some c.in-Err.why) c.refused_by_test.ensures)

pub suggest_known-requires : goal.suggest_known-requires
suggest_known-requires c = let p = suggest-passed c.args.n c.args.new c.args.tables.now.words.now c.args.tables.now.bytes.now (sym c.in_default.ensures) in
    record { entered = c.requires; value = p.0; n_value = p.1 }
