use Rattle.std.proofs.lemmas.Result.{err_from_is_err_and}
use Rattle.std.proofs.Common.{sym, ◌∙◌}
use Rattle.reader.specs.second.Tails.{ending-missing, ending-no-comma, ending-is, ending-no-group}
use Rattle.reader.proofs.second.endings.ending_at.Goals as goal

pub returns-in_err-strength : goal.returns-in_err-strength
returns-in_err-strength c = let p = err_from_is_err_and c.from_residual.result c.from_residual.ensures.1 in rw (p.1, p.2) (ending-missing c.args.s.now c.args.at c.skip-i.result c.skip-i.ensures c.in_err-strength.field-0.0 c.in_err-strength.ensures)

pub returns-in_err-group : goal.returns-in_err-group
returns-in_err-group c =
    let p = err_from_is_err_and c.from_residual-in_err-group.result c.from_residual-in_err-group.ensures.1 in rw (p.1, p.2)
    (ending-no-group c.args.s.now c.args.at c.skip-i.result c.skip-i.ensures c.in_ok-strength.ensures c.skip-mark.result c.skip-mark.ensures (sym c.byte_at.ensures ∙ c.if-byte_at-eq44.true) c.in_err-group.field-0.0 c.in_err-group.ensures)

pub returns-then-byte_at-eq44 : goal.returns-then-byte_at-eq44
returns-then-byte_at-eq44 c = ending-is c.args.s.now c.args.at c.skip-i.result c.skip-i.ensures c.in_ok-strength.ensures c.skip-mark.result c.skip-mark.ensures (sym c.byte_at.ensures ∙ c.if-byte_at-eq44.true) c.in_ok-group.ensures

pub returns : goal.returns
returns c = ending-no-comma c.args.s.now c.args.at c.skip-i.result c.skip-i.ensures c.in_ok-strength.ensures c.skip-mark.result c.skip-mark.ensures (λ e. c.if-byte_at-eq44.false (c.byte_at.ensures ∙ e))
