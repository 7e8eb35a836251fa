use Rattle.std.proofs.Common.{arith, sym, ◌∙◌}
use Rattle.std.proofs.lemmas.Result.{err_from_is_err_and}
use Rattle.reader.specs.HeadLaws.{number-plain, number_more, number-over, number-not}
use Rattle.reader.proofs.heads.number.Goals as goal

pub returns-in_err-n : goal.returns-in_err-n
returns-in_err-n c = let p = err_from_is_err_and c.from_residual.result c.from_residual.ensures.1 in rw (p.1, p.2) (number-not c.args.s.now c.args.at c.args.f c.requires.product_bound c.in_err-n.field-0.0 c.in_err-n.ensures c.requires.at_in_bounds c.requires.unmarked)

pub returns-then-k-gt1048576 : goal.returns-then-k-gt1048576
returns-then-k-gt1048576 c = number-over c.args.s.now c.args.at c.args.f c.requires.product_bound c.skip-mark.result c.in_ok-n.ensures c.skip-mark.ensures (sym c.byte_at.ensures ∙ c.if-byte_at-eq42.true) c.if-k-gt1048576.true

pub returns-then-byte_at-eq42 : goal.returns-then-byte_at-eq42
returns-then-byte_at-eq42 c = number_more c.args.s.now c.args.at c.args.f c.requires.product_bound c.skip-mark.result c.in_ok-n.ensures c.skip-mark.ensures (sym c.byte_at.ensures ∙ c.if-byte_at-eq42.true) (omega arith)

pub returns : goal.returns
returns c = number-plain c.args.s.now c.args.at c.args.f c.requires.product_bound c.skip-mark.result c.in_ok-n.ensures c.skip-mark.ensures (λ e. c.if-byte_at-eq42.false (c.byte_at.ensures ∙ e))
