use Rattle.std.proofs.Common.{ℕ, List, sym, ap, ◌∙◌, arith, Option}
use Rattle.text.specs.Digits.{same_bytes}
use Rattle.text.specs.Floats.{budget_of}
use Rattle.text.specs.Words.{words_of}
use Rattle.text.specs.Names.{add_name, addg_name}
use Rattle.text.specs.FormatLaws.{long-add, long-other, addg-short, addg-long}
use Rattle.text.specs.Lines.{line_of, add_at}
use Rattle.text.proofs.reading.read_long.Goals as goal

pub returns-then-same : goal.returns-then-same
returns-then-same c =
    let ws = words_of c.args.s.now in
    c.read_add.ensures ∙ long-add ws (omega arith) (sym (ap (λ (w : List ℕ). same_bytes w add_name) c.word_at-name.ensures) ∙ sym c.same.ensures ∙ c.if-same.true)

pub returns-then-not-same : goal.returns-then-not-same
returns-then-not-same c =
    let ws = words_of c.args.s.now in
    long-other ws (omega arith) (sym (ap (λ (w : List ℕ). same_bytes w add_name) c.word_at-name.ensures) ∙ sym c.same.ensures ∙ c.if-same.false) (sym (ap (λ (w : List ℕ). same_bytes w addg_name) c.word_at-name.ensures) ∙ sym c.same-2.ensures ∙ c.if-not-same.true)

pub returns-then-n-eq7 : goal.returns-then-n-eq7
returns-then-n-eq7 c =
    let ws = words_of c.args.s.now in
    addg-short ws (omega arith) (sym (ap (λ (w : List ℕ). same_bytes w add_name) c.word_at-name.ensures) ∙ sym c.same.ensures ∙ c.if-same.false) (sym (ap (λ (w : List ℕ). same_bytes w addg_name) c.word_at-name.ensures) ∙ sym c.same-2.ensures ∙ c.if-not-same.false) (omega arith)

pub returns : goal.returns
returns c =
    let ws = words_of c.args.s.now in
    c.read_add-2.ensures
    ∙ ap (λ (g : Option ℕ). line_of (add_at g 2 ws)) (c.budget_word-g.ensures ∙ ap budget_of c.word_at.ensures)
    ∙ addg-long ws (omega arith) (sym (ap (λ (w : List ℕ). same_bytes w add_name) c.word_at-name.ensures) ∙ sym c.same.ensures ∙ c.if-same.false) (sym (ap (λ (w : List ℕ). same_bytes w addg_name) c.word_at-name.ensures) ∙ sym c.same-2.ensures ∙ c.if-not-same.false) (omega (arith, c.if-n-eq7.false))
