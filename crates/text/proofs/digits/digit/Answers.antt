use Rattle.std.proofs.Common.{sym, ◌∙◌, arith}
use Rattle.text.specs.Digits.{digit_of}
use Rattle.text.specs.DigitLaws.{from_low}
use Rattle.text.proofs.digits.digit.Goals as goal

pub overflow_sub-result : goal.overflow_sub-result
overflow_sub-result c = from_low 48 57 c.args.b (sym c.is_from.ensures ∙ c.if-is_from.true)

pub overflow_sub-result-then-is_from-2 : goal.overflow_sub-result-then-is_from-2
overflow_sub-result-then-is_from-2 c = omega (arith, from_low 97 102 c.args.b (sym c.is_from-else-is_from.ensures ∙ c.if-is_from-2.true))

pub overflow_sub-result-then-is_from-3 : goal.overflow_sub-result-then-is_from-3
overflow_sub-result-then-is_from-3 c = omega (arith, from_low 65 70 c.args.b (sym c.is_from-else-is_from-2.ensures ∙ c.if-is_from-3.true))

pub returns-then-is_from : goal.returns-then-is_from
unfolding digit_of
returns-then-is_from c = simp (sym c.is_from.ensures ∙ c.if-is_from.true)

pub returns-then-is_from-2 : goal.returns-then-is_from-2
unfolding digit_of
returns-then-is_from-2 c = simp (sym c.is_from.ensures ∙ c.if-is_from.false, sym c.is_from-else-is_from.ensures ∙ c.if-is_from-2.true)

pub returns-then-is_from-3 : goal.returns-then-is_from-3
unfolding digit_of
returns-then-is_from-3 c = simp (sym c.is_from.ensures ∙ c.if-is_from.false, sym c.is_from-else-is_from.ensures ∙ c.if-is_from-2.false, sym c.is_from-else-is_from-2.ensures ∙ c.if-is_from-3.true)

pub returns-else-is_from-3 : goal.returns-else-is_from-3
unfolding digit_of
returns-else-is_from-3 c = simp (sym c.is_from.ensures ∙ c.if-is_from.false, sym c.is_from-else-is_from.ensures ∙ c.if-is_from-2.false, sym c.is_from-else-is_from-2.ensures ∙ c.if-is_from-3.false)
