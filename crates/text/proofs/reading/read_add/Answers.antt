use Rattle.std.proofs.Common.{ℕ, ◌+◌, ◌*◌, List, length, drop, sym, ap, ◌∙◌, arith, length-drop, eq-eqb, ne_eqb, Option}
use Rattle.text.specs.Choices.{ap2}
use Rattle.text.specs.Digits.{digits_of, up_to}
use Rattle.text.specs.DigitLaws.{up-to-most}
use Rattle.text.specs.Words.{words_of}
use Rattle.text.specs.Format.{counts}
use Rattle.text.specs.FormatLaws.{add-uncounted, add-counted}
use Rattle.text.specs.Lines.{line_with}
use Rattle.text.proofs.reading.read_add.Goals as goal

pub returns-in_err-m : goal.returns-in_err-m
returns-in_err-m c =
    let ws = words_of c.args.s.now in
    c.from_residual.ensures ∙ add-uncounted c.args.group c.args.i ws (ap (λ (w : Option ℕ). counts w (length (drop (c.args.i + 6) ws))) (sym (ap (λ (w : List ℕ). up_to 4294967295 (digits_of 10 w)) c.word_at.ensures) ∙ sym c.decimal.ensures ∙ c.in_err-m.was))

pub overflow_mul-m : goal.overflow_mul-m
overflow_mul-m c = record { fits = omega (arith, up-to-most 4294967295 _ c.in_ok-m.m (sym c.decimal.ensures ∙ c.in_ok-m.was)) }

pub returns-then-m-n : goal.returns-then-m-n
returns-then-m-n c =
    let ws = words_of c.args.s.now in
    add-uncounted c.args.group c.args.i ws (ap (λ (w : Option ℕ). counts w (length (drop (c.args.i + 6) ws))) (sym (ap (λ (w : List ℕ). up_to 4294967295 (digits_of 10 w)) c.word_at.ensures) ∙ sym c.decimal.ensures ∙ c.in_ok-m.was) ∙ ne_eqb (2 * c.in_ok-m.m) (length (drop (c.args.i + 6) ws)) (λ e. c.if-m-n.true (omega (arith, e, length-drop (c.args.i + 6) ws, c.requires.n_value, c.requires.i_bound_2))))

pub read_terms-requires : goal.read_terms-requires
read_terms-requires c = record { from_bound = (omega arith, up-to-most 4294967295 _ c.in_ok-m.m (sym c.decimal.ensures ∙ c.in_ok-m.was)); s_len = omega arith }

pub returns : goal.returns
returns c =
    let ws = words_of c.args.s.now in
    c.line_with.ensures ∙ ap2 line_with c.read_head.ensures c.read_terms.ensures
    ∙ add-counted c.args.group c.args.i ws (ap (λ (w : Option ℕ). counts w (length (drop (c.args.i + 6) ws))) (sym (ap (λ (w : List ℕ). up_to 4294967295 (digits_of 10 w)) c.word_at.ensures) ∙ sym c.decimal.ensures ∙ c.in_ok-m.was) ∙ eq-eqb (2 * c.in_ok-m.m) (length (drop (c.args.i + 6) ws)) (omega (arith, length-drop (c.args.i + 6) ws, c.if-m-n.false, c.requires.n_value, c.requires.i_bound_2)))
