use Rattle.std.proofs.Common.{◌+◌, ◌-◌, ◌/◌, ◌%◌, ◌<◌, [], ◌∷◌, length, arith}
use Rattle.text.specs.Answers.{wrote_as, wrote_nothing, wrote_then, decimal_text, decimal-none, decimal-one, decimal-more, decimal-short}
use Rattle.text.proofs.writing.+put_digits.Goals as goal

pub returns-then-k-eq0 : goal.returns-then-k-eq0
returns-then-k-eq0 t c =
    let a = c.args in
    wrote_as a.out.now a.out.now a.at a.at (decimal-none a.k a.n c.if-k-eq0.true) (wrote_nothing a.out.now a.at)

pub returns-then-n-lt10 : goal.returns-then-n-lt10
returns-then-n-lt10 t c =
    let a = c.args in
    let p = c.put_byte in
    wrote_as a.out.now p.new.out a.at p.result (decimal-one a.k a.n c.if-k-eq0.false c.if-n-lt10.true) p.ensures

pub put_byte-requires-2 : goal.put_byte-requires-2
put_byte-requires-2 t c =
    let a = c.args in
    let d = c.put_digits-next in
    let h : d.result < length d.new.out = omega (arith, d.ensures.0, d.ensures.1, c.requires, decimal-short (a.k - 1) (a.n / 10), c.if-k-eq0.false) in
    h

pub returns : goal.returns
returns t c =
    let a = c.args in
    let d = c.put_digits-next in
    let p = c.put_byte-2 in
    wrote_as a.out.now p.new.out a.at p.result (decimal-more a.k a.n c.if-k-eq0.false c.if-n-lt10.false)
    (wrote_then a.out.now d.new.out p.new.out a.at d.result p.result (decimal_text (a.k - 1) (a.n / 10)) ((48 + a.n % 10) ∷ []) d.ensures p.ensures)
