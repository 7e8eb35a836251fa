use Rattle.std.proofs.lemmas.Result.{err_from_is_err_and}
use Rattle.reader.specs.HeadLaws.{variable-is, variable-not}
use Rattle.reader.proofs.heads.variable.Goals as goal

pub returns-in_err-n : goal.returns-in_err-n
returns-in_err-n c = let p = err_from_is_err_and c.from_residual.result c.from_residual.ensures.1 in rw (p.1, p.2) (variable-not c.args.s.now c.args.at c.in_err-n.field-0.0 c.in_err-n.ensures c.requires)

pub returns : goal.returns
returns c = variable-is c.args.s.now c.args.at c.skip-mark.result c.in_ok-n.ensures c.skip-mark.ensures
