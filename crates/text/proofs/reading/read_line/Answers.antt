use Rattle.std.proofs.Common.{sym, ◌∙◌, arith}
use Rattle.text.specs.Words.{words_of}
use Rattle.text.specs.FormatLaws.{short-no-line, short-line}
use Rattle.text.proofs.reading.read_line.Goals as goal

pub returns-in_err-call : goal.returns-in_err-call
returns-in_err-call c = c.from_residual.ensures ∙ short-no-line (words_of c.args.s.now) (omega arith) (sym c.read_short.ensures ∙ c.in_err-call.was)

pub returns : goal.returns
returns c = short-line (words_of c.args.s.now) (omega arith) c.none-terms.ensures (sym c.read_short.ensures ∙ c.in_ok-call.was)
