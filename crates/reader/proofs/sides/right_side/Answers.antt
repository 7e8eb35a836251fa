use Rattle.std.proofs.lemmas.Result.{err_from_is_err_and}
use Rattle.reader.specs.Ends.{next-ready, right-read, right-halted, right-bad}
use Rattle.reader.proofs.sides.right_side.Goals as goal

pub returns-in_err-m : goal.returns-in_err-m
returns-in_err-m c = let p = err_from_is_err_and c.from_residual.result c.from_residual.ensures.1 in rw (p.1, p.2) (right-bad c.args.s.now c.args.numbers.now c.args.sums.now c.args.q c.in_err-m.field-0.0 c.in_err-m.ensures)

pub sum-requires-clause-ready : goal.sum-requires-clause-ready
sum-requires-clause-ready c = rw c.behind-p.ensures (next-ready c.args.s.now c.args.numbers.now c.args.sums.now c.args.q c.in_ok-m.m c.in_ok-m.at c.requires.rests c.in_ok-m.ensures).1

pub returns-in_err-e : goal.returns-in_err-e
returns-in_err-e c =
    let p = err_from_is_err_and c.from_residual-in_err-e.result c.from_residual-in_err-e.ensures.1 in rw (p.1, p.2)
    (right-halted c.args.s.now c.args.numbers.now c.args.sums.now c.sum.new.numbers c.sum.new.sums c.args.q c.in_ok-m.m c.in_ok-m.at c.in_err-e.field-0.0 c.in_ok-m.ensures (rw c.behind-p.ensures at c.in_err-e.ensures.result_after))

pub returns : goal.returns
returns c = right-read c.args.s.now c.args.numbers.now c.args.sums.now c.sum.new.numbers c.sum.new.sums c.args.q c.in_ok-m.m c.in_ok-m.at c.in_ok-e.e c.requires.s_len_bound c.in_ok-m.ensures (rw c.behind-p.ensures at c.in_ok-e.ensures.result_after) (rw c.behind-p.ensures at c.in_ok-e.ensures.sound) c.in_ok-e.ensures.ended
