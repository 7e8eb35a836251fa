use Rattle.std.proofs.Common.{◌<◌, ap, ◌∙◌, arith, add-one, get_or, ℤ}
use Rattle.grammar.specs.Sums.{add_to, signed}
use Rattle.reader.specs.sums.Held.{value_of, held, put-old, put-new, bounded_at, within, moved-is, moved_new}
use Rattle.reader.proofs.sums.add_term.Goals as goal
use Rattle.reader.proofs.sums.add_term.Goals.{else-i-count-via-then-i-count+else-numbers-i, else-i-count-via-else-i-count}

pub with-requires : goal.with-requires
with-requires c =
    let h = within (get_or c.args.sums.now c.place_of-i.result 0) 4294967296 (bounded_at 4294967296 c.args.numbers.now c.args.sums.now c.args.count c.place_of-i.result c.if-i-count.true (omega arith) (omega arith) c.requires.bounded) in
    (omega (arith, h.0), omega (arith, h.1))

pub returns-then-numbers-i-clause-result_after : goal.returns-then-numbers-i-clause-result_after
returns-then-numbers-i-clause-result_after c =
    let h = within (get_or c.args.sums.now c.place_of-i.result 0) 4294967296 (bounded_at 4294967296 c.args.numbers.now c.args.sums.now c.args.count c.place_of-i.result c.if-i-count.true (omega arith) (omega arith) c.requires.bounded) in
    put-old c.args.numbers.now c.args.sums.now c.args.count c.place_of-i.result c.args.v c.with.result (signed c.args.f.minus c.args.f.product) c.if-i-count.true (omega arith) (omega arith) c.place_of-i.ensures.below c.if-numbers-i.true
    (ap value_of c.with.ensures ∙ moved-is c.args.f.minus c.args.f.product (get_or c.args.sums.now c.place_of-i.result 0) (omega (arith, h.0)))

pub returns-clause-result_after : goal.returns-clause-result_after
returns-clause-result_after c =
    let above : c.place_of-i.result < c.args.count → c.args.v < get_or c.args.numbers.now c.place_of-i.result 0 = λ k. elim c.else-i-count.branch [ else-i-count-via-then-i-count+else-numbers-i w ↦ omega (arith, c.place_of-i.ensures.here k, w.if-numbers-i.false) | else-i-count-via-else-i-count w ↦ omega (arith, w.if-i-count.false) ] in
    rw (c.open.ensures, c.open-2.ensures, add-one) (put-new c.args.numbers.now c.args.sums.now c.args.count c.place_of-i.result c.args.v c.with-2.result c.place_of-i.ensures.within (omega arith) (omega arith) c.place_of-i.ensures.below above
    ∙ ap (λ (z : ℤ). add_to c.args.v z (held c.args.numbers.now c.args.sums.now c.args.count)) (ap value_of c.with-2.ensures ∙ moved_new c.args.f.minus c.args.f.product (omega arith)))
