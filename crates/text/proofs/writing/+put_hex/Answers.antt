use Rattle.std.proofs.Common.{◌-◌, ◌/◌, ◌%◌, ◌<◌, [], ◌∷◌, length, arith, ℕ, sym, ap}
use Rattle.text.specs.Answers.{wrote_as, wrote_nothing, wrote_then, glyph, hex_text, hex-none, hex-more, hex-length}
use Rattle.text.proofs.writing.+put_hex.Goals as goal

pub returns-then-k-eq0 : goal.returns-then-k-eq0
returns-then-k-eq0 t c =
    let a = c.args in
    wrote_as a.out.now a.out.now a.at a.at (hex-none a.k a.n c.if-k-eq0.true) (wrote_nothing a.out.now a.at)

pub put_byte-requires : goal.put_byte-requires
put_byte-requires t c =
    let a = c.args in
    let d = c.put_hex-next in
    let h : d.result < length d.new.out = omega (arith, d.ensures.0, d.ensures.1, c.requires, hex-length (a.k - 1) (a.n / 16), c.if-k-eq0.false) in
    h

pub returns : goal.returns
returns t c =
    let a = c.args in
    let d = c.put_hex-next in
    let p = c.put_byte in
    wrote_as a.out.now p.new.out a.at p.result (hex-more a.k a.n c.if-k-eq0.false)
    (wrote_then a.out.now d.new.out p.new.out a.at d.result p.result (hex_text (a.k - 1) (a.n / 16)) (glyph (a.n % 16) ∷ [])
    d.ensures
    (wrote_as d.new.out p.new.out d.result p.result (ap (λ (g : ℕ). g ∷ []) (sym c.glyph.ensures)) p.ensures))
