use Rattle.std.proofs.lemmas.Result.{err_from_is_err_and}
use Rattle.reader.specs.Ends.{none-ready, left-read, left-bad}
use Rattle.reader.proofs.sides.left_side.Goals as goal

pub returns-in_err-at : goal.returns-in_err-at
returns-in_err-at c = let p = err_from_is_err_and c.from_residual.result c.from_residual.ensures.1 in rw (p.1, p.2) (left-bad c.args.s.now c.args.numbers.now c.args.sums.now c.in_err-at.field-0.0 c.in_err-at.ensures)

pub sum-requires-clause-ready : goal.sum-requires-clause-ready
sum-requires-clause-ready c = none-ready c.args.numbers.now c.args.sums.now _

pub returns : goal.returns
returns c = left-read c.args.s.now c.args.numbers.now c.args.sums.now c.sum.new.numbers c.sum.new.sums c.sum.result c.in_ok-at.ensures c.sum.ensures.result_after c.sum.ensures.sound c.sum.ensures.ended
