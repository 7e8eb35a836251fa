use Rattle.std.proofs.Common.{rules}
use Rattle.addition.specs.Chosen.{all-dummies, some-other}
use Rattle.addition.proofs.row.add_without_subject.Goals as goal

pub returns-then-all_dummies : goal.returns-then-all_dummies
returns-then-all_dummies c = record { values_value = all-dummies _ _ c.args.row.now c.args.marker c.args.other _ (c.all_dummies.ensures _ _ _ _ _ _ _) _ _ c.if-all_dummies.true c.add_dummies.ensures.values_value; goes = c.add_dummies.ensures.goes; same = search rules }

pub returns : goal.returns
returns c = record { values_value = some-other _ _ c.args.row.now c.args.marker c.args.other _ (c.all_dummies.ensures _ _ _ _ _ _ _) _ _ c.if-all_dummies.false (c.add_with_artificial.ensures.by_index _ _); goes = c.add_with_artificial.ensures.goes; same = search rules }
