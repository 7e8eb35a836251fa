use Rattle.sparse.specs.Tables.{held, lent}
use mathlib.Core.Path.{sym}
use Rattle.sparse.specs.Refusals.{number-some}
use Rattle.refusals.specs.Known.{suggest-passed}
use Rattle.solver.specs.Begin.{counts-at-start, numbers-at-start}
use Rattle.solver.specs.Suggesting.{suggest-by-test}
use Rattle.solver.proofs.suggest.suggest.Goals as goal

pub suggest_tests-requires : goal.suggest_tests-requires
suggest_tests-requires c =
    let t = lent c.args.tables.now in
    let w = held c.args.room.now in
    let k = counts-at-start t w c.requires in
    record { words_bound = k.variables; words_bound_2 = k.edits; ascends = numbers-at-start t w c.requires }

pub returns-in-Err-clause-does : goal.returns-in-Err-clause-does
returns-in-Err-clause-does c = suggest-by-test c.args.n c.args.budget c.args.new (lent c.args.tables.now) (held c.args.room.now) (held c.args.room.now) c.refused_by_test.result c.requires c.in-Err.ensures (number-some c.in-Err.why) c.refused_by_test.ensures

pub suggest_known-requires : goal.suggest_known-requires
suggest_known-requires c = let p = suggest-passed c.args.n c.args.new c.args.tables.now.words.now c.args.tables.now.bytes.now (sym c.in_default.ensures) in
    record { entered = c.requires; value = p.0; n_value = p.1 }
