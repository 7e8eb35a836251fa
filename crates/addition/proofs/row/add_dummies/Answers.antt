use Rattle.std.proofs.Common.{rules}
use Rattle.addition.specs.Chosen.{dummies-enter, dummies-refused}
use Rattle.addition.proofs.row.add_dummies.Goals as goal

pub returns-then-near_zero : goal.returns-then-near_zero
returns-then-near_zero c = record { values_value = dummies-enter _ _ c.args.row.now c.args.marker c.args.other c.near_zero.ensures c.if-near_zero.true _ _ (c.add_with_subject.ensures.by_index _ _); goes = c.add_with_subject.ensures.goes; same = search rules }

pub returns : goal.returns
returns c = let all = dummies-refused _ _ c.args.row.now c.args.marker c.args.other c.near_zero.ensures c.if-near_zero.false in record { values_value = all.0; goes = all.1; same = search rules }
