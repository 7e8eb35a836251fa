use Rattle.std.proofs.lemmas.Result.{err_from_is_err_and}
use Rattle.reader.specs.second.Ends.{line-sides, line-halted}
use Rattle.reader.proofs.second.ends.second_line.Goals as goal

pub returns-in_err-m-clause-agrees : goal.returns-in_err-m-clause-agrees
returns-in_err-m-clause-agrees c = let p = err_from_is_err_and c.from_residual.result c.from_residual.ensures.1 in rw (p.1, p.2) (line-halted c.args.s.now c.both_sides.new.numbers c.both_sides.new.sums c.in_err-m.ensures)

pub returns-clause-agrees : goal.returns-clause-agrees
returns-clause-agrees c = (line-sides c.args.s.now c.both_sides.new.numbers c.both_sides.new.sums c.end_of.result c.in_ok-m.ensures c.end_of.ensures).0
