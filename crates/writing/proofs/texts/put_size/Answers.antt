use Rattle.writing.specs.Buffer.{text-as, then, adds-nothing}
use Rattle.writing.specs.Texts.{size-one, size-more}
use Rattle.writing.proofs.texts.put_size.Goals as goal

pub returns-then-n-eq1 : goal.returns-then-n-eq1
returns-then-n-eq1 c = text-as (size-one _ c.if-n-eq1.true) (adds-nothing _ _)

pub returns : goal.returns
returns c = text-as (size-more _ c.if-n-eq1.false) (then c.put_number-next.ensures c.put.ensures)
