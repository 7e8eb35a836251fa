use Rattle.std.proofs.Common.{sym, ap, ◌∙◌, arith}
use Rattle.text.specs.Words.{words_of}
use Rattle.text.specs.FormatLaws.{call-1, call-2, call-3, call-4, call-5, call_none}
use Rattle.text.specs.Lines.{as_call}
use Rattle.text.proofs.reading.read_short.Goals as goal

pub returns-then-n-eq1 : goal.returns-then-n-eq1
returns-then-n-eq1 c = c.read_one.ensures ∙ sym (ap as_call (call-1 (words_of c.args.s.now) (omega arith)))

pub returns-then-n-eq2 : goal.returns-then-n-eq2
returns-then-n-eq2 c = c.read_two.ensures ∙ sym (ap as_call (call-2 (words_of c.args.s.now) (omega arith)))

pub returns-then-n-eq3 : goal.returns-then-n-eq3
returns-then-n-eq3 c = c.read_three.ensures ∙ sym (ap as_call (call-3 (words_of c.args.s.now) (omega arith)))

pub returns-then-n-eq4 : goal.returns-then-n-eq4
returns-then-n-eq4 c = c.read_four.ensures ∙ sym (ap as_call (call-4 (words_of c.args.s.now) (omega arith)))

pub returns-then-n-eq5 : goal.returns-then-n-eq5
returns-then-n-eq5 c = c.read_five.ensures ∙ sym (ap as_call (call-5 (words_of c.args.s.now) (omega arith)))

pub returns : goal.returns
returns c = sym (ap as_call (call_none (words_of c.args.s.now) (omega arith) (λ e. c.if-n-eq1.false (omega arith)) (λ e. c.if-n-eq2.false (omega arith)) (λ e. c.if-n-eq3.false (omega arith)) (λ e. c.if-n-eq4.false (omega arith)) (λ e. c.if-n-eq5.false (omega arith))))
