use Rattle.std.proofs.Common.{sym, ◌∙◌, arith}
use Rattle.text.specs.DigitLaws.{up-to-most}
use Rattle.text.specs.Floats.{budget_of}
use Rattle.text.proofs.floats.budget_word.Goals as goal

pub returns-in_err-n : goal.returns-in_err-n
unfolding budget_of
returns-in_err-n c = c.from_residual.ensures ∙ sym c.in_err-n.was ∙ c.decimal.ensures

pub overflow_cast-result : goal.overflow_cast-result
overflow_cast-result c = record { fits = omega (arith, up-to-most 65535 _ c.in_ok-n.n (sym c.decimal.ensures ∙ c.in_ok-n.was)) }

pub returns : goal.returns
unfolding budget_of
returns c = sym c.in_ok-n.was ∙ c.decimal.ensures
