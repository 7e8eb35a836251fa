use Rattle.std.proofs.lemmas.Result.{err_from_is_err_and}
use Rattle.reader.specs.second.Tails.{group-is, group-behind, group-missing}
use Rattle.reader.proofs.second.endings.group_at.Goals as goal

pub returns-in_err-group : goal.returns-in_err-group
returns-in_err-group c = let p = err_from_is_err_and c.from_residual.result c.from_residual.ensures.1 in rw (p.1, p.2) (group-missing c.args.s.now c.args.at c.skip-i.result c.skip-i.ensures c.in_err-group.field-0.0 c.in_err-group.ensures)

pub returns-then-end-s : goal.returns-then-end-s
returns-then-end-s c = group-is c.args.s.now c.args.at c.skip-i.result c.skip-i.ensures c.in_ok-group.ensures c.if-end-s.true

pub returns : goal.returns
returns c = group-behind c.args.s.now c.args.at c.skip-i.result c.skip-i.ensures c.in_ok-group.ensures c.if-end-s.false
