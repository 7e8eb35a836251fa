use Rattle.std.proofs.Common.{sym, ◌∙◌}
use Rattle.reader.specs.StepLaws.{close-read, close-not}
use Rattle.reader.proofs.parts.close.Goals as goal

pub returns-then-byte_at-eq41 : goal.returns-then-byte_at-eq41
returns-then-byte_at-eq41 c = rw c.behind.ensures (close-read c.args.s.now c.args.q c.skip-mark.result c.skip-mark.ensures c.skip-at.result (sym c.byte_at.ensures ∙ c.if-byte_at-eq41.true) c.skip-at.ensures)

pub returns : goal.returns
returns c = close-not c.args.s.now c.args.q c.skip-mark.result c.skip-mark.ensures (λ e. c.if-byte_at-eq41.false (c.byte_at.ensures ∙ e))
