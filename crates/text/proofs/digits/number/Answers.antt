use Rattle.std.proofs.Common.{◌+◌, ◌*◌, drop, sym, ap, ◌∙◌, arith}
use Rattle.text.specs.Digits.{up_to}
use Rattle.text.specs.DigitLaws.{digits-start, digits-next, digits-stop, digits_last, digits-none, digits-big, up-to}
use Rattle.text.proofs.digits.number.Goals as goal

pub returns-then-is_empty : goal.returns-then-is_empty
unfolding up_to
returns-then-is_empty g c = ap (up_to c.args.most) (digits-none g.row.BASE c.args.w.now (sym c.is_empty.ensures ∙ c.if-is_empty.true))

pub loop-b-init : goal.loop-b-init
loop-b-init g c = (omega arith, digits-start g.row.BASE c.args.w.now (sym c.is_empty.ensures ∙ c.if-is_empty.false))

pub returns-then-d : goal.returns-then-d
unfolding up_to
returns-then-d g c = ap (up_to c.args.most) (digits-stop g.row.BASE c.loop-b.v c.args.w.now c.loop-b.b-index (omega arith) c.loop-b.invariant.1 c.digit-d.ensures c.if-d.true)

pub returns-then-most-longer : goal.returns-then-most-longer
returns-then-most-longer g c =
    sym (digits-big g.row.BASE c.args.most (c.loop-b.v * g.row.BASE + c.digit-d.result) (drop (c.loop-b.b-index + 1) c.args.w.now) c.requires.0 c.if-most-longer.true)
    ∙ ap (up_to c.args.most) (digits-next g.row.BASE c.loop-b.v c.args.w.now c.loop-b.b-index (omega arith) c.loop-b.invariant.1 c.digit-d.ensures (omega (arith, c.if-d.false)))

pub loop-b-preserved : goal.loop-b-preserved
loop-b-preserved g c = (omega arith, digits-next g.row.BASE c.loop-b.v c.args.w.now c.loop-b.b-index (omega arith) c.loop-b.invariant.1 c.digit-d.ensures (omega (arith, c.if-d.false)))

pub returns : goal.returns
returns g c = sym (up-to c.args.most c.loop-b.v c.loop-b.invariant.0) ∙ ap (up_to c.args.most) (digits_last g.row.BASE c.loop-b.v c.args.w.now c.loop-b.b-index (omega arith) c.loop-b.invariant.1)
