use Rattle.std.proofs.lemmas.Result.{err_from_is_err_and}
use Rattle.std.proofs.Common.{arith, refl}
use Rattle.reader.specs.Parts.{sums_of}
use Rattle.reader.specs.StepLaws.{variable-fits, leaf-number, leaf-variable}
use Rattle.reader.specs.SumLaws.{leaf-fits, part-leaf, open-ready, part-closed, part-halted, sum-halted, sum_goes, sum-ends}
use Rattle.reader.proofs.parts.+part_sum.Goals as goal

pub part-add_term-count-requires-clause-bounded : goal.part-add_term-count-requires-clause-bounded
part-add_term-count-requires-clause-bounded t c =
    let a = c.args in
    (variable-fits a.numbers.now a.sums.now a.p c.in_ok-h.h c.requires.ready (leaf-fits a.s.now a.p.at c.requires.at_in_bounds.1 c.in_ok-h.ensures) c.in-Variable.is).1

pub part-sum-requires : goal.part-sum-requires
part-sum-requires t c =
    let a = c.args in
    let r = open-ready a.s.now a.p c.in_ok-h.ensures a.numbers.now a.sums.now c.in-Open.is c.requires.ready in
    (omega arith, rw c.behind-q-in-Open.ensures ((r.0, c.requires.at_in_bounds.1, c.in_ok-h.ensures.small), r.1))

pub part-returns-in_err-inner-in-Open-clause-result_after : goal.part-returns-in_err-inner-in-Open-clause-result_after
part-returns-in_err-inner-in-Open-clause-result_after t c =
    let a = c.args in
    let p = err_from_is_err_and c.from_residual-in_err-inner-in-Open.result c.from_residual-in_err-inner-in-Open.ensures.1 in rw (p.1, p.2)
    (part-halted a.s.now a.p c.in_ok-h.ensures a.numbers.now a.sums.now c.in-Open.is a.o.left (omega (arith, c.if-o-eq0.false)) c.in_err-inner-in-Open.field-0.0 (rw c.behind-q-in-Open.ensures at c.in_err-inner-in-Open.ensures.result_after))

pub part-returns-in-Number-clause-result_after : goal.part-returns-in-Number-clause-result_after
part-returns-in-Number-clause-result_after t c =
    let a = c.args in
    let l = leaf-number a.numbers.now a.sums.now a.p c.in_ok-h.h c.requires.ready (leaf-fits a.s.now a.p.at c.requires.at_in_bounds.1 c.in_ok-h.ensures) c.with-constant.result c.in-Number.is c.with-constant.ensures in
    rw c.behind-q.ensures (part-leaf a.s.now a.p c.in_ok-h.ensures a.numbers.now a.sums.now a.numbers.now a.sums.now a.o.left l).0

pub part-returns-in-Number-clause-sound : goal.part-returns-in-Number-clause-sound
part-returns-in-Number-clause-sound t c =
    let a = c.args in
    let l = leaf-number a.numbers.now a.sums.now a.p c.in_ok-h.h c.requires.ready (leaf-fits a.s.now a.p.at c.requires.at_in_bounds.1 c.in_ok-h.ensures) c.with-constant.result c.in-Number.is c.with-constant.ensures in
    rw c.behind-q.ensures (part-leaf a.s.now a.p c.in_ok-h.ensures a.numbers.now a.sums.now a.numbers.now a.sums.now a.o.left l).1

pub part-returns-in-Variable-clause-sound : goal.part-returns-in-Variable-clause-sound
part-returns-in-Variable-clause-sound t c =
    let a = c.args in
    let l = leaf-variable a.numbers.now a.sums.now a.p c.in_ok-h.h c.requires.ready (leaf-fits a.s.now a.p.at c.requires.at_in_bounds.1 c.in_ok-h.ensures) c.add_term-count.new.numbers c.add_term-count.new.sums c.add_term-count.result c.in-Variable.is c.add_term-count.ensures.result_after c.add_term-count.ensures.upper_bound in
    rw c.behind-q-in-Variable.ensures (part-leaf a.s.now a.p c.in_ok-h.ensures a.numbers.now a.sums.now c.add_term-count.new.numbers c.add_term-count.new.sums a.o.left l).1

pub part-returns-in_ok-inner-in-Open-clause-result_after : goal.part-returns-in_ok-inner-in-Open-clause-result_after
part-returns-in_ok-inner-in-Open-clause-result_after t c =
    let a = c.args in
    (part-closed a.s.now a.p c.in_ok-h.ensures a.numbers.now a.sums.now c.sum.new.numbers c.sum.new.sums c.in-Open.is a.o.left (omega (arith, c.if-o-eq0.false)) c.close.result (rw c.behind-q-in-Open.ensures at c.in_ok-inner-in-Open.ensures.result_after) (rw c.behind-q-in-Open.ensures at c.in_ok-inner-in-Open.ensures.sound) c.in_ok-inner-in-Open.ensures.ended c.close.ensures).0

pub part-returns-in_ok-inner-in-Open-clause-sound : goal.part-returns-in_ok-inner-in-Open-clause-sound
part-returns-in_ok-inner-in-Open-clause-sound t c =
    let a = c.args in
    (part-closed a.s.now a.p c.in_ok-h.ensures a.numbers.now a.sums.now c.sum.new.numbers c.sum.new.sums c.in-Open.is a.o.left (omega (arith, c.if-o-eq0.false)) c.close.result (rw c.behind-q-in-Open.ensures at c.in_ok-inner-in-Open.ensures.result_after) (rw c.behind-q-in-Open.ensures at c.in_ok-inner-in-Open.ensures.sound) c.in_ok-inner-in-Open.ensures.ended c.close.ensures).1

pub sum-returns-in_err-e-clause-result_after : goal.sum-returns-in_err-e-clause-result_after
sum-returns-in_err-e-clause-result_after t c =
    let a = c.args in
    let l = c.loop-e in
    let g = c.part in
    let p = err_from_is_err_and c.from_residual.result c.from_residual.ensures.1 in rw (p.1, p.2)
    (sum-halted a.s.now a.p.at a.o.factor.minus a.o.factor.product a.o.left (sums_of a.numbers.now a.sums.now a.p) l.numbers l.sums g.new.numbers g.new.sums l.q l.f.minus l.invariant.left l.invariant.later c.in_err-e.field-0.0 (rw l.invariant.product at c.in_err-e.ensures.result_after))

pub sum-loop-e-preserved : goal.sum-loop-e-preserved
sum-loop-e-preserved t c =
    let a = c.args in
    let l = c.loop-e in
    let g = c.part in
    let z = sum_goes a.s.now a.p.at a.o.factor.minus a.o.factor.product a.o.left (sums_of a.numbers.now a.sums.now a.p) l.numbers l.sums g.new.numbers g.new.sums l.q l.f.minus l.invariant.left l.invariant.later (rw l.invariant.product at c.in_ok-e.ensures.result_after) c.in_ok-e.ensures.sound c.in-On.ensures in
    rw c.behind-q.ensures (record { later = omega (arith, z.0, l.invariant.later); within = z.1; product = refl; left = z.2; ready = z.3 })

pub sum-returns-in-Last-clause-result_after : goal.sum-returns-in-Last-clause-result_after
sum-returns-in-Last-clause-result_after t c =
    let a = c.args in
    let l = c.loop-e in
    let g = c.part in
    (sum-ends a.s.now a.p.at a.o.factor.minus a.o.factor.product a.o.left (sums_of a.numbers.now a.sums.now a.p) l.numbers l.sums g.new.numbers g.new.sums l.q l.f.minus l.invariant.left l.invariant.later (rw l.invariant.product at c.in_ok-e.ensures.result_after) c.in_ok-e.ensures.sound c.in-Last.ensures).0

pub sum-returns-in-Last-clause-sound : goal.sum-returns-in-Last-clause-sound
sum-returns-in-Last-clause-sound t c =
    let a = c.args in
    let l = c.loop-e in
    let g = c.part in
    (sum-ends a.s.now a.p.at a.o.factor.minus a.o.factor.product a.o.left (sums_of a.numbers.now a.sums.now a.p) l.numbers l.sums g.new.numbers g.new.sums l.q l.f.minus l.invariant.left l.invariant.later (rw l.invariant.product at c.in_ok-e.ensures.result_after) c.in_ok-e.ensures.sound c.in-Last.ensures).1.0
