use Rattle.rows.specs.choose.Better.{better-on, better-off}
use Rattle.waist.proofs.ratios.row_better.Goals as goal

pub returns-then-is_external-is_signed : goal.returns-then-is_external-is_signed
returns-then-is_external-is_signed c = rw (← c.numerator.ensures, ← c.is_external.ensures, ← c.is_signed.ensures) (better-on _ _ _ c.if-is_external-is_signed.true c.better.ensures)

pub returns-else-is_external-is_signed : goal.returns-else-is_external-is_signed
returns-else-is_external-is_signed c = rw (← c.is_external.ensures, ← c.is_signed.ensures) (better-off _ _ _ c.if-is_external-is_signed.false)
