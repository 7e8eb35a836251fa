use Rattle.std.proofs.lemmas.Result.{err_from_is_err_and}
use Rattle.reader.specs.Ends.{both_read, left-halted}
use Rattle.reader.proofs.sides.both_sides.Goals as goal

pub returns-in_err-q : goal.returns-in_err-q
returns-in_err-q c = let p = err_from_is_err_and c.from_residual.result c.from_residual.ensures.1 in rw (p.1, p.2) (left-halted c.args.s.now c.left_side.new.numbers c.left_side.new.sums c.in_err-q.ensures)

pub returns : goal.returns
returns c = both_read c.args.s.now c.left_side.new.numbers c.left_side.new.sums c.right_side.new.numbers c.right_side.new.sums c.right_side.result c.in_ok-q.ensures c.right_side.ensures
