use Rattle.std.proofs.Common.{◌+◌, ◌-◌, ◌/◌, ◌%◌, [], ◌∷◌}
use Rattle.grammar.specs.plain.Decimal.{decimal_in}
use Rattle.writing.specs.Buffer.{text-as, adds-nothing, adds_then, decimal-none, decimal-one, decimal-more}
use Rattle.writing.proofs.buffer.+put_digits.Goals as goal

pub returns-then-k-eq0 : goal.returns-then-k-eq0
returns-then-k-eq0 t c =
    let a = c.args in
    text-as (decimal-none a.k a.n c.if-k-eq0.true) (adds-nothing a.out.now a.at)

pub returns-then-n-lt10 : goal.returns-then-n-lt10
returns-then-n-lt10 t c =
    let a = c.args in
    let p = c.put in
    text-as (decimal-one a.k a.n c.if-k-eq0.false c.if-n-lt10.true) p.ensures

pub returns : goal.returns
returns t c =
    let a = c.args in
    let d = c.put_digits-next in
    let p = c.put-2 in
    text-as (decimal-more a.k a.n c.if-k-eq0.false c.if-n-lt10.false)
    (adds_then a.out.now d.new.out p.new.out a.at d.result p.result (decimal_in (a.k - 1) (a.n / 10)) ((48 + a.n % 10) ∷ []) d.ensures p.ensures)
