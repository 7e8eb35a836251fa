use Rattle.std.proofs.Common.{◌≡◌, ℕ, ◌+◌, ◌*◌, drop, sym, ap, ◌∙◌, ap₂, arith}
use Rattle.changes.specs.declared.terms.Pack.{Pack}
use Rattle.text.specs.Words.{words_of}
use Rattle.text.specs.Floats.{id_of, float_of}
use Rattle.text.specs.Format.{terms_of}
use Rattle.text.specs.Lines.{packed_from}
use Rattle.text.specs.LineLaws.{terms-next, terms-no-id, terms-no-real, terms-last}
use Rattle.text.proofs.packing.read_terms.Goals as goal

pub loop-i-init : goal.loop-i-init
loop-i-init c =
    let e : c.args.from + 2 * 0 ≡ c.args.from = omega arith in
    ap₂ (λ (t : Pack) (k : ℕ). packed_from t (terms_of (drop k (words_of c.args.s.now)))) c.none-t.ensures e

pub returns-in_err-v : goal.returns-in_err-v
returns-in_err-v c =
    let ws = words_of c.args.s.now in
    c.from_residual.ensures ∙ terms-no-id ws (c.args.from + 2 * c.loop-i.i) (c.args.from + 1 + 2 * c.loop-i.i) (c.args.from + 2 * (c.loop-i.i + 1)) (omega arith) (omega arith) (omega arith) c.loop-i.t c.loop-i.invariant (sym (ap id_of c.word_at.ensures) ∙ sym c.id_word.ensures ∙ c.in_err-v.was)

pub returns-in_err-x : goal.returns-in_err-x
returns-in_err-x c =
    let ws = words_of c.args.s.now in
    c.from_residual-in_err-x.ensures ∙ terms-no-real ws (c.args.from + 2 * c.loop-i.i) (c.args.from + 1 + 2 * c.loop-i.i) (c.args.from + 2 * (c.loop-i.i + 1)) (omega arith) (omega arith) (omega arith) c.loop-i.t c.loop-i.invariant (sym (ap id_of c.word_at.ensures) ∙ sym c.id_word.ensures ∙ c.in_ok-v.was) (sym (ap float_of c.word_at-in-loop-i.ensures) ∙ sym c.float_word.ensures ∙ c.in_err-x.was)

pub loop-i-preserved : goal.loop-i-preserved
loop-i-preserved c =
    let ws = words_of c.args.s.now in
    ap (λ (t : Pack). packed_from t (terms_of (drop (c.args.from + 2 * (c.loop-i.i + 1)) ws))) c.push-t.ensures
    ∙ terms-next ws (c.args.from + 2 * c.loop-i.i) (c.args.from + 1 + 2 * c.loop-i.i) (c.args.from + 2 * (c.loop-i.i + 1)) (omega arith) (omega arith) (omega arith) c.loop-i.t c.loop-i.invariant (sym (ap id_of c.word_at.ensures) ∙ sym c.id_word.ensures ∙ c.in_ok-v.was) (sym (ap float_of c.word_at-in-loop-i.ensures) ∙ sym c.float_word.ensures ∙ c.in_ok-x.was)

pub returns : goal.returns
returns c =
    let ws = words_of c.args.s.now in
    terms-last ws (c.args.from + 2 * c.loop-i.i) c.loop-i.t (omega arith) c.loop-i.invariant
